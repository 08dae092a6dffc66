-- The types that the crate `records` declares, passed on under one name.
pub use Rattle.records.specs.declared.Store.{Store}
pub use Rattle.records.specs.declared.Tx.{Tx}
pub use Rattle.records.specs.declared.Txid.{Txid}
pub use Rattle.records.specs.declared.RowId.{RowId}
pub use Rattle.records.specs.declared.SlotPtr.{SlotPtr}
pub use Rattle.records.specs.declared.Write.{Write}
pub use Rattle.records.specs.declared.ReadRecord.{ReadRecord}
pub use Rattle.records.specs.declared.IndexRead.{IndexRead}
pub use Rattle.records.specs.declared.Fault.{Fault}
pub use Rattle.records.specs.declared.Schedule.{Schedule}
pub use Rattle.records.specs.declared.Record.{Record}
pub use Rattle.records.specs.declared.Events.{Events}
pub use Rattle.records.specs.declared.Answer.{Answer}
pub use Rattle.records.specs.declared.Reply.{Reply}
pub use Rattle.records.specs.declared.Seen.{Seen}
pub use Rattle.records.specs.declared.Written.{Written}
pub use Rattle.records.specs.declared.Found.{Found}
pub use Rattle.records.specs.declared.Mended.{Mended}
pub use Rattle.records.specs.declared.Value.{Value}
pub use Rattle.records.specs.declared.Value.TheVariants.{Absent, Key}
pub use Rattle.records.specs.declared.Cut.{Cut}
pub use Rattle.records.specs.declared.Cut.TheVariants.{Uncut, After}
pub use Rattle.records.specs.declared.Fate.{Fate}
pub use Rattle.records.specs.declared.Fate.TheVariants.{Open, Closed, Undone, Standing}
pub use Rattle.records.specs.declared.Cause.{Cause}
pub use Rattle.records.specs.declared.Cause.TheVariants.{BusyGuard, IndexReadAt, RowLockAt, SerializationAt, WriteBaseAt}
pub use Rattle.records.specs.declared.Refusal.{Refusal}
pub use Rattle.records.specs.declared.Refusal.TheVariants.{Done, NotResting, Unfit, NotActive, StepFailed, PrepareFailed, PreparePanicked, Conflict}
pub use Rattle.records.specs.declared.Refusal.TheVariants.{BoundDurably, FoundPoisoned, InsertFailed, CallbackFailed, CallbackPanicked, RemoveFailed}
pub use Rattle.records.specs.declared.Refusal.TheVariants.{PublishFailed, RecycleFailed, FinishFailed, StampFailed, CutOff, CleanupFailed, NotRepairable}
pub use Rattle.records.specs.declared.Refusal.TheVariants.{ActiveFull, ClockAtEnd, RowTooHigh, ReadsFull, WritesFull, SlotsFull, LockedByAnother, NoHead}
pub use Rattle.records.specs.declared.Refusal.TheVariants.{ImpossibleMinute}
