-- Laws of a list in which the m elements from one place on were replaced: what those hold now, and every other stretch; and of
-- replacing them one by one.
-- From the logic's laws of lists.
use mathlib.Core.Path.{◌≡◌, refl, sym, ◌∙◌, ap}
use mathlib.Core.Bool.{cond}
use lib.Dec.{ltb}
use mathlib.Core.List.{List, ◌∷◌, ◌++◌, append_assoc}
use mathlib.Core.Logic.{◌⊎◌, ⊎_elim}
use Prim.Native.Nat.{ℕ, zero, suc, ◌+◌, ◌-◌, ◌≤◌, ◌<◌}
use native.Mathlib.Nat.{sub-zero, zero-sub, suc-sub-suc}
use native.Mathlib.Numerals.{add-one}
use native.Mathlib.Omega.{arith}
use lib.ListN.{length, get_or, set, take, drop, replicate, length-set, length-append, length-drop, take-append-drop}
use lib.Seq.{length-take-le, take_at, drop_at, take-append-le, drop-append-le, take-add, drop-drop, paste, paste-suc}
pub use Rattle.worklist.specs.Supports.{replaced}

pub take-replicate {ℓ} : {A : Type ℓ} (m n : ℕ) (x : A) → m ≤ n → take m (replicate n x) ≡ replicate m x
take-replicate zero n x h = refl
take-replicate (suc m) zero x h = absurd (omega arith)
take-replicate {A = A} (suc m) (suc n) x h = ap {B = List A} (λ t. x ∷ t) (take-replicate m n x (omega arith))

pub drop-replicate {ℓ} : {A : Type ℓ} (m n : ℕ) (x : A) → drop m (replicate n x) ≡ replicate (n - m) x
drop-replicate zero n x = rw (sub-zero n)
drop-replicate (suc m) zero x = rw (zero-sub (suc m))
drop-replicate (suc m) (suc n) x = drop-replicate m n x ∙ ap (λ (k : ℕ). replicate k x) (sym (suc-sub-suc n m))

-- how many of the first j places are among the first m
abbrev pub upto : ℕ → ℕ → ℕ
upto j m = cond (ltb j m) j m

-- ---- One by one

-- `after` is the list with the first j elements of `new` in place of those from `at` on
abbrev pub Copied : List ℕ → ℕ → List ℕ → ℕ → List ℕ → Type 0
Copied list at new j after = (length after ≡ length list) × (after ≡ paste list at new j)

pub copied_more : (list : List ℕ) (at : ℕ) (new : List ℕ) (j v : ℕ) (after : List ℕ) → at + j < length list → j < length new → v ≡ get_or new j 0 → Copied list at new j after → Copied list at new (j + 1) (set after (at + j) v)
copied_more list at new j v after d h e c = (
  length-set after (at + j) v ∙ c.0,
  ap (λ (xs : List ℕ). set xs (at + j) v) c.1
      ∙ ap (set (paste list at new j) (at + j)) e
      ∙ paste-suc list at new j 0 d h
      ∙ ap (paste list at new) (sym (add-one j)),
)

-- ---- The list with the elements replaced

-- by themselves
pub replaced-same {ℓ} : {A : Type ℓ} (list : List A) (at m : ℕ) → replaced list (take m (drop at list)) at m ≡ list
replaced-same {A = A} list at m =
    ap (λ (t : List A). t ++ drop (at + m) list) (sym (take-add at m list)) ∙ take-append-drop (at + m) list

module _ {ℓ} {A : Type ℓ} (list new : List A) (at m : ℕ) (long : length new ≡ m) (inside : at + m ≤ length list) where
  head-length : length (take at list ++ new) ≡ at + m
  head-length = omega (arith, length-append (take at list) new, length-take-le at list (omega arith))

  pub replaced-length : length (replaced list new at m) ≡ length list
  replaced-length = omega (arith, length-append (take at list ++ new) (drop (at + m) list), head-length, length-drop (at + m) list)

  front : (rest : List A) (b k : ℕ) → b + k ≤ at → take k (drop b (take at list ++ rest)) ≡ take k (drop b (take at list))
  front rest b k h =
      let l : length (take at list) ≡ at = length-take-le at list (omega arith) in
      ap (take k) (drop-append-le b (take at list) rest (omega arith))
      ∙ take-append-le k (drop b (take at list)) rest (omega (arith, length-drop b (take at list)))

  -- a stretch before them
  pub replaced-before : (b k : ℕ) → b + k ≤ at → take k (drop b (replaced list new at m)) ≡ take k (drop b list)
  replaced-before b k h =
      ap (λ (xs : List A). take k (drop b xs)) (append_assoc (take at list) new (drop (at + m) list))
      ∙ front (new ++ drop (at + m) list) b k h
      ∙ sym (front (drop at list) b k h)
      ∙ ap (λ (xs : List A). take k (drop b xs)) (take-append-drop at list)

  -- the m elements themselves
  pub replaced-here : take m (drop at (replaced list new at m)) ≡ new
  replaced-here =
      ap (λ (xs : List A). take m (drop at xs)) (append_assoc (take at list) new (drop (at + m) list))
      ∙ ap (take m) (drop_at (take at list) (new ++ drop (at + m) list) at (length-take-le at list (omega arith)))
      ∙ take_at new (drop (at + m) list) m long

  -- all that is behind them
  pub replaced-after : (b : ℕ) → at + m ≤ b → drop b (replaced list new at m) ≡ drop b list
  replaced-after b h =
      let e : b ≡ at + m + (b - (at + m)) = omega arith in
      ap (λ (x : ℕ). drop x (replaced list new at m)) e
      ∙ sym (drop-drop (b - (at + m)) (at + m) (replaced list new at m))
      ∙ ap (drop (b - (at + m))) (drop_at (take at list ++ new) (drop (at + m) list) (at + m) head-length)
      ∙ drop-drop (b - (at + m)) (at + m) list
      ∙ ap (λ (x : ℕ). drop x list) (sym e)

  -- a stretch that does not overlap them
  pub replaced-elsewhere : (b k : ℕ) → (b + k ≤ at) ⊎ (at + m ≤ b) → take k (drop b (replaced list new at m)) ≡ take k (drop b list)
  replaced-elsewhere b k h = ⊎_elim (replaced-before b k) (λ l. ap (take k) (replaced-after b l)) h
