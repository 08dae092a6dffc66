-- Numbers laid out at the front of an array, zeros behind them.
use Rattle.std.specs.Prelude.{◌≡◌, refl, List, [], ◌∷◌, ◌++◌, ℕ, zero, suc, ◌+◌, ◌-◌, ◌≤◌, ◌<◌, min, length, set, take, drop, replicate}
use Rattle.std.proofs.Common.{sym, ap, ◌∙◌, append-nil, add-one, arith, drop_of_length-le, length-drop, length-set, length-take-le, take_all, take-suc-set}
use borrow.Rule.Slice.PartMut.{put_mid}
use Rattle.rules.specs.Lists.{pad}
use Rattle.fields.specs.Pad.{pad_over, take_clip}

-- the array x of so many places is the list l laid out, r its length
pub record Packed (l : List ℕ) (size : ℕ) (x : List ℕ) (r : ℕ) : Type 0 where
  pub at : x ≡ pad size 0 l
  pub count : r ≡ length l

module _ {ℓ} {A : Type ℓ} (z : A) where
  -- a list that fills the array is all of it
  pub pad_whole : (n : ℕ) (l : List A) → length l ≡ n → pad n z l ≡ l
  pad_whole zero [] e = refl
  pad_whole zero (x ∷ l) e = absurd (omega arith)
  pad_whole (suc n) [] e = absurd (omega arith)
  pad_whole (suc n) (x ∷ l) e = ap (λ (r : List A). x ∷ r) (pad_whole n l (omega arith))

  -- one filler more says nothing new
  pub pad_filler : (n : ℕ) (l : List A) → pad n z (l ++ z ∷ []) ≡ pad n z l
  pad_filler zero l = refl
  pad_filler (suc n) [] = refl
  pad_filler (suc n) (x ∷ l) = ap (λ (r : List A). x ∷ r) (pad_filler n l)

-- a number past the end takes the whole list, as the list's length does
pub take_within : (n m : ℕ) (l : List ℕ) → m ≡ min n (length l) → take m l ≡ take n l
take_within n m l e = rw e (take_clip n (length l) l refl)

-- v is put behind the first m, which fill the array or not
pub put_behind : (x : List ℕ) (m v : ℕ) → m < length x → pad (length (set x m v)) 0 (take (m + 1) (set x m v)) ≡ pad (length x) 0 (take m x ++ v ∷ [])
put_behind x m v h = rw (length-set, add-one, take-suc-set x m v h)

pub none_behind : (x : List ℕ) (m v : ℕ) → length x ≤ m → x ≡ pad (length x) 0 (take m x ++ v ∷ [])
none_behind x m v h = rw (take_all m x h) (sym (pad_over (length x) 0 x (v ∷ []) (omega arith) ∙ pad_whole 0 (length x) x refl))

-- the first m of an array with zeros behind them are those m laid out
zeros_laid : (n : ℕ) → replicate {A = ℕ} n 0 ≡ pad n 0 []
zeros_laid zero = refl
zeros_laid (suc n) = ap (λ (l : List ℕ). 0 ∷ l) (zeros_laid n)

zeros_behind : (x : List ℕ) (m n : ℕ) → m + n ≡ length x → take m x ++ replicate n 0 ≡ pad (length x) 0 (take m x)
zeros_behind x zero n e = let k : n ≡ length x = omega arith in rw (← k) (zeros_laid n)
zeros_behind [] (suc m) n e = absurd (omega arith)
zeros_behind (y ∷ x) (suc m) n e = ap (λ (l : List ℕ). y ∷ l) (zeros_behind x m n (omega arith))

-- as `fill` leaves them in the part of an array from m on
pub zeros_filled : (x y : List ℕ) (m : ℕ) → m ≤ length x → y ≡ replicate (length (take (length x - m) (drop m x))) 0
    → put_mid m (length x - m) x y ≡ pad (length x) 0 (take m x)
zeros_filled x y m h e =
    let n = length x - m in
    let long = length-drop m x in
    let all : length (take n (drop m x)) ≡ n = length-take-le n (drop m x) (omega arith) in
    let none : drop n (drop m x) ≡ [] = drop_of_length-le (drop m x) (omega arith) in
    rw (e, all, none, append-nil) (zeros_behind x m n (omega arith))

-- clearing from m on, place by place
pub clear_turn : (x : List ℕ) (m : ℕ) → m < length x → pad (length (set x m 0)) 0 (take (m + 1) (set x m 0)) ≡ pad (length x) 0 (take m x)
clear_turn x m h = put_behind x m 0 h ∙ pad_filler 0 (length x) (take m x)

pub clear_end : (x : List ℕ) (m : ℕ) → length x ≤ m → x ≡ pad (length x) 0 (take m x)
clear_end x m h = rw (take_all m x h) (sym (pad_whole 0 (length x) x refl))

-- an array cleared behind its first k is those k laid out
pub packed_first : (l x : List ℕ) (k n : ℕ) {y : List ℕ} → take k x ≡ l → k ≤ length x → length x ≡ n → y ≡ pad (length x) 0 (take k x) → Packed l n y k
packed_first l x k n e h q p = record { at = p ∙ rw (q, e); count = sym (length-take-le k x h) ∙ ap length e }
