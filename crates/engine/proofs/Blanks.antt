-- Laws of the support list whose dead tuples' numbers are made 65,535, one tuple after the other, one pair after the other.
-- From the laws of a list with a stretch replaced, and of where the pairs' numbers begin.
use mathlib.Core.Path.{◌≡◌, refl, sym, ◌∙◌, ap, subst}
use mathlib.Core.Bool.{Bool, true, false, cond}
use mathlib.Core.List.{List, [], ◌∷◌}
use Prim.Native.Nat.{ℕ, zero, suc, ◌+◌, ◌-◌, ◌*◌, ◌≤◌, ◌<◌}
use native.Mathlib.Nat.{mul-le-mul_right, suc-mul}
use native.Mathlib.Numerals.{add-one}
use native.Mathlib.Omega.{arith}
use lib.ListN.{length, take, drop, replicate, length-replicate}
use lib.Seq.{take-take, drop-drop}
use borrow.Author.Count.{below_more}
use Rattle.model.specs.Limits.{no_support}
use Rattle.model.specs.Network.{Network, size, first_id}
use Rattle.model.specs.Combination.{pair_member}
use Rattle.model.specs.Consistency.{support_start}
use Rattle.model.specs.LiveWords.{is_live}
use Rattle.model.proofs.SupportList.{support_start-suc, support_start-mono}
use Rattle.worklist.proofs.Stretch.{replaced, replaced-length, replaced-before, replaced-here, replaced-after}
use Rattle.layout.specs.Starts.{outline}
use Rattle.layout.specs.Setting.{Lists, network_in}
use Rattle.engine.specs.Blank.{BlankAt, Blank, Blanked}

-- what is behind a later place is as before too
drop-later : (a b : ℕ) (xs ys : List ℕ) → a ≤ b → drop a xs ≡ drop a ys → drop b xs ≡ drop b ys
drop-later a b xs ys h e =
    let q : b ≡ a + (b - a) = omega arith in
    ap (λ (n : ℕ). drop n xs) q
    ∙ sym (drop-drop (b - a) a xs)
    ∙ ap (drop (b - a)) e
    ∙ drop-drop (b - a) a ys
    ∙ ap (λ (n : ℕ). drop n ys) (sym q)

-- ---- One tuple after the other

module _ (start first g end m : ℕ) (from : first ≤ g) (below : g < end) where
  -- where the next tuple's numbers begin
  pub next_place : start + (g + 1 - first) * m ≡ start + (g - first) * m + m
  next_place = let e : g + 1 - first ≡ suc (g - first) = omega arith in ap (λ (x : ℕ). start + x * m) e ∙ omega (arith, suc-mul (g - first) m)

  pub next-inside : start + (g + 1 - first) * m ≤ start + (end - first) * m
  next-inside = let l : g + 1 - first ≤ end - first = omega arith in omega (arith, mul-le-mul_right m l)

module _ (m at g : ℕ) (words numbers : List ℕ) where
  -- the same place, first id and number of tuples, told otherwise
  pub blank-as : (at' g' n n' : ℕ) (after : List ℕ) → at ≡ at' → g ≡ g' → n ≡ n' → Blank m at g n words numbers after → Blank m at' g' n' words numbers after
  blank-as at' g' n n' after e f q b =
      subst (λ (x : ℕ). Blank m x g' n' words numbers after) e
      (subst (λ (x : ℕ). Blank m at x n' words numbers after) f (subst (λ (x : ℕ). Blank m at g x words numbers after) q b))

  module _ (n k : ℕ) (now : List ℕ) (next : k ≡ n + 1) (sofar : Blank m at g n words numbers now) (inside : at + k * m ≤ length numbers) where
    step : at + k * m ≡ at + n * m + m
    step = ap (λ (x : ℕ). at + x * m) (next ∙ add-one n) ∙ omega (arith, suc-mul n m)

    -- tuple g + n lives: nothing changes
    pub blank-live : is_live words (g + n) ≡ true → Blank m at g k words numbers now
    blank-live e =
        record {
          long = sofar.long;
          before = sofar.before;
          after = drop-later (at + n * m) (at + k * m) now numbers (omega (arith, step)) sofar.after;
          «at_each» =
              subst (λ (j : ℕ). (x : ℕ) → x < j → BlankAt m (at + x * m) (g + x) words numbers now) (sym next)
              (below_more _ n sofar.at_each
              (ap (take m) sofar.after ∙ ap (λ (b : Bool). cond b (take m (drop (at + n * m) numbers)) (replicate m no_support)) (sym e)));
        }

    -- it is dead: its numbers are replaced
    pub blank-dead : (after : List ℕ) → is_live words (g + n) ≡ false → after ≡ replaced now (replicate m no_support) (at + n * m) m → Blank m at g k words numbers after
    blank-dead after e q =
        let new = replicate m no_support in
        let l : length new ≡ m = length-replicate m no_support in
        let i : at + n * m + m ≤ length now = omega (arith, step, sofar.long) in
        record {
          long = ap length q ∙ replaced-length now new (at + n * m) m l i ∙ sofar.long;
          before = ap (take at) q ∙ replaced-before now new (at + n * m) m l i 0 at (omega arith) ∙ sofar.before;
          after =
              ap (drop (at + k * m)) q
              ∙ replaced-after now new (at + n * m) m l i (at + k * m) (omega (arith, step))
              ∙ drop-later (at + n * m) (at + k * m) now numbers (omega (arith, step)) sofar.after;
          «at_each» =
              subst (λ (j : ℕ). (x : ℕ) → x < j → BlankAt m (at + x * m) (g + x) words numbers after) (sym next)
              (below_more _ n
              (λ x h.
              ap (λ (xs : List ℕ). take m (drop (at + x * m) xs)) q
              ∙ replaced-before now new (at + n * m) m l i (at + x * m) m (omega (arith, mul-le-mul_right {m = suc x} m h, suc-mul x m))
              ∙ sofar.at_each x h)
              (ap (λ (xs : List ℕ). take m (drop (at + n * m) xs)) q
              ∙ replaced-here now new (at + n * m) m l i
              ∙ ap (λ (b : Bool). cond b (take m (drop (at + n * m) numbers)) new) (sym e)));
        }

-- ---- One pair after the other

-- a stretch of the first a elements
part-before : (a b k : ℕ) (xs : List ℕ) → b + k ≤ a → take k (drop b xs) ≡ take k (drop b (take a xs))
part-before a zero k xs h = sym (take-take k a xs (omega arith))
part-before zero (suc b) k xs h = absurd (omega arith)
part-before (suc a) (suc b) k [] h = refl
part-before (suc a) (suc b) k (x ∷ xs) h = part-before a b k xs (omega arith)

module _ (N : Network) (m : ℕ) (members words numbers : List ℕ) where
  module _ (p : ℕ) (h : p < length members) (now next : List ℕ) (sofar : Blanked N m members p words numbers now) (done : Blank m (support_start N m members p) (first_id N (pair_member members p)) (size N (pair_member members p)) words now next) where
    abbrev start : ℕ → ℕ
    start = support_start N m members

    abbrev At : List ℕ → ℕ → Type 0
    At list q = (x : ℕ) → x < size N (pair_member members q) → BlankAt m (start q + x * m) (first_id N (pair_member members q) + x) words numbers list

    -- the numbers of the pairs before p stay
    earlier : (q : ℕ) → q < p → At next q
    earlier q l x k =
        let b = start q + x * m in
        let e : b + m ≤ start p =
        omega (arith, mul-le-mul_right {m = suc x} m k, suc-mul x m, support_start-suc N m members q (omega arith), support_start-mono N m members (suc q) p l)
        in
        part-before (start p) b m next e
        ∙ ap (λ (xs : List ℕ). take m (drop b xs)) done.before
        ∙ sym (part-before (start p) b m now e)
        ∙ sofar.at_each q x l k

    own : At next p
    own x k =
        done.at_each x k
        ∙ ap (λ (xs : List ℕ). cond (is_live words (first_id N (pair_member members p) + x)) (take m xs) (replicate m no_support))
        (drop-later (start p) (start p + x * m) now numbers (omega arith) sofar.after)

    pub blanked-more : Blanked N m members (p + 1) words numbers next
    blanked-more =
        let e : start (p + 1) ≡ start p + size N (pair_member members p) * m = ap start (add-one p) ∙ support_start-suc N m members p h in
        record {
          long = done.long ∙ sofar.long;
          after =
              ap (λ (n : ℕ). drop n next) e
              ∙ done.after
              ∙ drop-later (start p) (start p + size N (pair_member members p) * m) now numbers (omega arith) sofar.after
              ∙ ap (λ (n : ℕ). drop n numbers) (sym e);
          «at_each» = λ q x l k. below_more (At next) p earlier own q l x k;
        }

-- ---- By the records alone

pub blanked-network : (L : Lists) {m : ℕ} {members : List ℕ} {k : ℕ} {words numbers after : List ℕ} → Blanked (outline L.starts) m members k words numbers after → Blanked (network_in L) m members k words numbers after
unfolding support_start
blanked-network L b = record { long = b.long; after = b.after; at_each = b.at_each }
