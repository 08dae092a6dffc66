-- "Numbers seen": each refusal's number, and "Each refusal carries its fate inside it".
use Rattle.std.specs.Prelude.{◌≡◌, refl, ◌≢◌, List, [], ◌∷◌, ◌++◌, map, ℕ, replicate}
use Rattle.rules.specs.Types.{Cause, BusyGuard, IndexReadAt, RowLockAt, SerializationAt, WriteBaseAt}
use Rattle.rules.specs.Types.{Fate, Refusal, Done, NotResting, Unfit, NotActive, StepFailed, PrepareFailed, PreparePanicked, Conflict}
use Rattle.rules.specs.Types.{BoundDurably, FoundPoisoned, InsertFailed, CallbackFailed, CallbackPanicked, RemoveFailed, PublishFailed}
use Rattle.rules.specs.Types.{RecycleFailed, FinishFailed, StampFailed, CutOff, CleanupFailed, NotRepairable, ActiveFull, ClockAtEnd}
use Rattle.rules.specs.Types.{RowTooHigh, ReadsFull, WritesFull, SlotsFull, LockedByAnother, NoHead, ImpossibleMinute}
use Rattle.basic_laws.specs.Refusals.{Case, done, seven, plain, case_of}
use Rattle.rules.specs.Numbers.{number_of, fate_in, nothing, cause, more_in, test_named, place_named}

-- the refusals in the order of the paper's table; document 02's after them
abbrev pub refusals : Cause → List (Fate → Refusal)
refusals c =
    NotResting ∷ Unfit ∷ NotActive ∷ StepFailed ∷ PrepareFailed ∷ PreparePanicked ∷ Conflict c ∷ BoundDurably ∷ FoundPoisoned ∷ InsertFailed
    ∷ CallbackFailed ∷ CallbackPanicked ∷ RemoveFailed ∷ PublishFailed ∷ RecycleFailed ∷ FinishFailed ∷ StampFailed ∷ CutOff ∷ CleanupFailed
    ∷ NotRepairable ∷ ActiveFull ∷ ClockAtEnd ∷ RowTooHigh ∷ ReadsFull ∷ WritesFull ∷ SlotsFull ∷ LockedByAnother ∷ NoHead ∷ ImpossibleMinute ∷ []

-- 0 where nothing is refused, 1 to 28, and wish 7's 31
pub numbers_say : (c : Cause) (f : Fate) → number_of Done ∷ map (λ kind. number_of (kind f)) (refusals c)
    ≡ 0 ∷ 1 ∷ 2 ∷ 3 ∷ 4 ∷ 5 ∷ 6 ∷ 7 ∷ 8 ∷ 9 ∷ 10 ∷ 11 ∷ 12 ∷ 13 ∷ 14 ∷ 15 ∷ 16 ∷ 17 ∷ 18 ∷ 19 ∷ 20 ∷ 21 ∷ 22 ∷ 23 ∷ 24 ∷ 25 ∷ 26 ∷ 27 ∷ 28 ∷ 31 ∷ []
numbers_say c f = refl

-- whatever the fate, it is the one inside
pub fates_say : (c : Cause) (f : Fate) → map (λ kind. fate_in (kind f)) (refusals c) ≡ replicate 29 f
fates_say c f = refl

-- document 02's wish 4: 7 alone tells its cause, which is the one inside
pub causes_say : (c : Cause) (f : Fate) → map (λ kind. more_in (kind f)) (refusals c) ≡ replicate 6 nothing ++ cause c ∷ replicate 22 nothing
causes_say c f = refl

-- "busy guard, or which of tests 11 to 14 and at which place", "with 0 and 0 for a busy guard"
abbrev causes : ℕ → List Cause
causes p = BusyGuard ∷ IndexReadAt p ∷ RowLockAt p ∷ SerializationAt p ∷ WriteBaseAt p ∷ []

pub tests_say : (p : ℕ) → map test_named (causes p) ≡ 0 ∷ 11 ∷ 12 ∷ 13 ∷ 14 ∷ []
tests_say p = refl

pub places_say : (p : ℕ) → map place_named (causes p) ≡ 0 ∷ p ∷ p ∷ p ∷ p ∷ []
places_say p = refl

-- "on 7 only"
pub only_seven : (why : Refusal) → number_of why ≢ 7 → more_in why ≡ nothing
only_seven why = told (case_of why)
  where
    told : {why : Refusal} → Case why → number_of why ≢ 7 → more_in why ≡ nothing
    told done h = refl
    told (seven c f) h = absurd (h refl)
    told (plain d m) h = m
