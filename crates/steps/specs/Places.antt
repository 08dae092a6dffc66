-- The place of each gate, in upstream's order, and of the end of a run: past all gates where it is clean.
use Rattle.std.specs.Prelude.{◌≡◌, ℕ, ◌<◌, Result, Ok, Err, ⊤}
use Rattle.std.proofs.Common.{arith}
use Rattle.steps.specs.declared.gate.Gate.{Gate}
use Rattle.steps.specs.declared.gate.Gate.TheVariants.{ChangesFailed, LockKeysFailed, RecordFailed, PrepareFailed, PreparePanicked}
use Rattle.steps.specs.declared.gate.Gate.TheVariants.{IndexGuardsFailed, IndexGuardsBusy, PartitionGuardsFailed, PartitionGuardsBusy}
use Rattle.steps.specs.declared.gate.Gate.TheVariants.{UnloggedCheckFailed, DurablyBound, Poisoned, IndexReadsFailed, IndexReadsConflict}
use Rattle.steps.specs.declared.gate.Gate.TheVariants.{RowLocksFailed, RowLocksConflict, SerializationFailed, SerializationConflict}
use Rattle.steps.specs.declared.gate.Gate.TheVariants.{WriteBaseFailed, WriteBaseConflict, InsertFailed, CallbackEnded}
use Rattle.steps.specs.declared.gate.Gate.TheVariants.{RemoveFailed, PublishFailed, RecycleFailed, FinishFailed, StampFailed}
use Rattle.steps.specs.GateTable.{clean_gate}

unfoldable pub place_of : Gate → ℕ
place_of ChangesFailed = 0
place_of LockKeysFailed = 1
place_of RecordFailed = 2
place_of PrepareFailed = 3
place_of PreparePanicked = 4
place_of IndexGuardsFailed = 5
place_of IndexGuardsBusy = 6
place_of PartitionGuardsFailed = 7
place_of PartitionGuardsBusy = 8
place_of UnloggedCheckFailed = 9
place_of DurablyBound = 10
place_of Poisoned = 11
place_of IndexReadsFailed = 12
place_of IndexReadsConflict = 13
place_of RowLocksFailed = 14
place_of RowLocksConflict = 15
place_of SerializationFailed = 16
place_of SerializationConflict = 17
place_of WriteBaseFailed = 18
place_of WriteBaseConflict = 19
place_of InsertFailed = 20
place_of CallbackEnded = 21
place_of RemoveFailed = 22
place_of PublishFailed = 23
place_of RecycleFailed = 24
place_of FinishFailed = 25
place_of StampFailed = 26

pub place_below : (g : Gate) → place_of g < clean_gate
unfolding place_of
place_below ChangesFailed = omega arith
place_below LockKeysFailed = omega arith
place_below RecordFailed = omega arith
place_below PrepareFailed = omega arith
place_below PreparePanicked = omega arith
place_below IndexGuardsFailed = omega arith
place_below IndexGuardsBusy = omega arith
place_below PartitionGuardsFailed = omega arith
place_below PartitionGuardsBusy = omega arith
place_below UnloggedCheckFailed = omega arith
place_below DurablyBound = omega arith
place_below Poisoned = omega arith
place_below IndexReadsFailed = omega arith
place_below IndexReadsConflict = omega arith
place_below RowLocksFailed = omega arith
place_below RowLocksConflict = omega arith
place_below SerializationFailed = omega arith
place_below SerializationConflict = omega arith
place_below WriteBaseFailed = omega arith
place_below WriteBaseConflict = omega arith
place_below InsertFailed = omega arith
place_below CallbackEnded = omega arith
place_below RemoveFailed = omega arith
place_below PublishFailed = omega arith
place_below RecycleFailed = omega arith
place_below FinishFailed = omega arith
place_below StampFailed = omega arith

-- what numbers the gates in their order gives their places
pub place_numbered : (f : Gate → ℕ)
    → f ChangesFailed ≡ 0
    → f LockKeysFailed ≡ 1
    → f RecordFailed ≡ 2
    → f PrepareFailed ≡ 3
    → f PreparePanicked ≡ 4
    → f IndexGuardsFailed ≡ 5
    → f IndexGuardsBusy ≡ 6
    → f PartitionGuardsFailed ≡ 7
    → f PartitionGuardsBusy ≡ 8
    → f UnloggedCheckFailed ≡ 9
    → f DurablyBound ≡ 10
    → f Poisoned ≡ 11
    → f IndexReadsFailed ≡ 12
    → f IndexReadsConflict ≡ 13
    → f RowLocksFailed ≡ 14
    → f RowLocksConflict ≡ 15
    → f SerializationFailed ≡ 16
    → f SerializationConflict ≡ 17
    → f WriteBaseFailed ≡ 18
    → f WriteBaseConflict ≡ 19
    → f InsertFailed ≡ 20
    → f CallbackEnded ≡ 21
    → f RemoveFailed ≡ 22
    → f PublishFailed ≡ 23
    → f RecycleFailed ≡ 24
    → f FinishFailed ≡ 25
    → f StampFailed ≡ 26
    → (g : Gate) → f g ≡ place_of g
unfolding place_of
place_numbered f p0 p1 p2 p3 p4 p5 p6 p7 p8 p9 p10 p11 p12 p13 p14 p15 p16 p17 p18 p19 p20 p21 p22 p23 p24 p25 p26 ChangesFailed = p0
place_numbered f p0 p1 p2 p3 p4 p5 p6 p7 p8 p9 p10 p11 p12 p13 p14 p15 p16 p17 p18 p19 p20 p21 p22 p23 p24 p25 p26 LockKeysFailed = p1
place_numbered f p0 p1 p2 p3 p4 p5 p6 p7 p8 p9 p10 p11 p12 p13 p14 p15 p16 p17 p18 p19 p20 p21 p22 p23 p24 p25 p26 RecordFailed = p2
place_numbered f p0 p1 p2 p3 p4 p5 p6 p7 p8 p9 p10 p11 p12 p13 p14 p15 p16 p17 p18 p19 p20 p21 p22 p23 p24 p25 p26 PrepareFailed = p3
place_numbered f p0 p1 p2 p3 p4 p5 p6 p7 p8 p9 p10 p11 p12 p13 p14 p15 p16 p17 p18 p19 p20 p21 p22 p23 p24 p25 p26 PreparePanicked = p4
place_numbered f p0 p1 p2 p3 p4 p5 p6 p7 p8 p9 p10 p11 p12 p13 p14 p15 p16 p17 p18 p19 p20 p21 p22 p23 p24 p25 p26 IndexGuardsFailed = p5
place_numbered f p0 p1 p2 p3 p4 p5 p6 p7 p8 p9 p10 p11 p12 p13 p14 p15 p16 p17 p18 p19 p20 p21 p22 p23 p24 p25 p26 IndexGuardsBusy = p6
place_numbered f p0 p1 p2 p3 p4 p5 p6 p7 p8 p9 p10 p11 p12 p13 p14 p15 p16 p17 p18 p19 p20 p21 p22 p23 p24 p25 p26 PartitionGuardsFailed = p7
place_numbered f p0 p1 p2 p3 p4 p5 p6 p7 p8 p9 p10 p11 p12 p13 p14 p15 p16 p17 p18 p19 p20 p21 p22 p23 p24 p25 p26 PartitionGuardsBusy = p8
place_numbered f p0 p1 p2 p3 p4 p5 p6 p7 p8 p9 p10 p11 p12 p13 p14 p15 p16 p17 p18 p19 p20 p21 p22 p23 p24 p25 p26 UnloggedCheckFailed = p9
place_numbered f p0 p1 p2 p3 p4 p5 p6 p7 p8 p9 p10 p11 p12 p13 p14 p15 p16 p17 p18 p19 p20 p21 p22 p23 p24 p25 p26 DurablyBound = p10
place_numbered f p0 p1 p2 p3 p4 p5 p6 p7 p8 p9 p10 p11 p12 p13 p14 p15 p16 p17 p18 p19 p20 p21 p22 p23 p24 p25 p26 Poisoned = p11
place_numbered f p0 p1 p2 p3 p4 p5 p6 p7 p8 p9 p10 p11 p12 p13 p14 p15 p16 p17 p18 p19 p20 p21 p22 p23 p24 p25 p26 IndexReadsFailed = p12
place_numbered f p0 p1 p2 p3 p4 p5 p6 p7 p8 p9 p10 p11 p12 p13 p14 p15 p16 p17 p18 p19 p20 p21 p22 p23 p24 p25 p26 IndexReadsConflict = p13
place_numbered f p0 p1 p2 p3 p4 p5 p6 p7 p8 p9 p10 p11 p12 p13 p14 p15 p16 p17 p18 p19 p20 p21 p22 p23 p24 p25 p26 RowLocksFailed = p14
place_numbered f p0 p1 p2 p3 p4 p5 p6 p7 p8 p9 p10 p11 p12 p13 p14 p15 p16 p17 p18 p19 p20 p21 p22 p23 p24 p25 p26 RowLocksConflict = p15
place_numbered f p0 p1 p2 p3 p4 p5 p6 p7 p8 p9 p10 p11 p12 p13 p14 p15 p16 p17 p18 p19 p20 p21 p22 p23 p24 p25 p26 SerializationFailed = p16
place_numbered f p0 p1 p2 p3 p4 p5 p6 p7 p8 p9 p10 p11 p12 p13 p14 p15 p16 p17 p18 p19 p20 p21 p22 p23 p24 p25 p26 SerializationConflict = p17
place_numbered f p0 p1 p2 p3 p4 p5 p6 p7 p8 p9 p10 p11 p12 p13 p14 p15 p16 p17 p18 p19 p20 p21 p22 p23 p24 p25 p26 WriteBaseFailed = p18
place_numbered f p0 p1 p2 p3 p4 p5 p6 p7 p8 p9 p10 p11 p12 p13 p14 p15 p16 p17 p18 p19 p20 p21 p22 p23 p24 p25 p26 WriteBaseConflict = p19
place_numbered f p0 p1 p2 p3 p4 p5 p6 p7 p8 p9 p10 p11 p12 p13 p14 p15 p16 p17 p18 p19 p20 p21 p22 p23 p24 p25 p26 InsertFailed = p20
place_numbered f p0 p1 p2 p3 p4 p5 p6 p7 p8 p9 p10 p11 p12 p13 p14 p15 p16 p17 p18 p19 p20 p21 p22 p23 p24 p25 p26 CallbackEnded = p21
place_numbered f p0 p1 p2 p3 p4 p5 p6 p7 p8 p9 p10 p11 p12 p13 p14 p15 p16 p17 p18 p19 p20 p21 p22 p23 p24 p25 p26 RemoveFailed = p22
place_numbered f p0 p1 p2 p3 p4 p5 p6 p7 p8 p9 p10 p11 p12 p13 p14 p15 p16 p17 p18 p19 p20 p21 p22 p23 p24 p25 p26 PublishFailed = p23
place_numbered f p0 p1 p2 p3 p4 p5 p6 p7 p8 p9 p10 p11 p12 p13 p14 p15 p16 p17 p18 p19 p20 p21 p22 p23 p24 p25 p26 RecycleFailed = p24
place_numbered f p0 p1 p2 p3 p4 p5 p6 p7 p8 p9 p10 p11 p12 p13 p14 p15 p16 p17 p18 p19 p20 p21 p22 p23 p24 p25 p26 FinishFailed = p25
place_numbered f p0 p1 p2 p3 p4 p5 p6 p7 p8 p9 p10 p11 p12 p13 p14 p15 p16 p17 p18 p19 p20 p21 p22 p23 p24 p25 p26 StampFailed = p26

-- where a run ends: at a gate, or clean
unfoldable pub end_place : Result ⊤ Gate → ℕ
end_place (Ok u) = clean_gate
end_place (Err g) = place_of g
