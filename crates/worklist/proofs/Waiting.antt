-- Laws of the queue: which pairs wait once one is put or taken, and which pairs a removal adds.
-- From the model's laws of live words, and the definitions of `others` and `queues`.
use mathlib.Core.Path.{◌≡◌, refl, sym, ◌∙◌, ap, subst}
use mathlib.Core.Bool.{Bool, true, false, not, ◌&&◌, ◌||◌, or-false, or_assoc, and-true, and-false}
use mathlib.Core.List.{List}
use Prim.Native.Nat.{ℕ, ◌+◌, ◌*◌, ◌/◌, ◌^◌, ◌≤◌, ◌<◌}
use native.Mathlib.Nat.{div-eq_of_lt-le, le-div_iff_mul-le, add-div_right, mul-div_cancel, mul-le-mul_right}
use native.Mathlib.Decide.{ℕ_discrete, dec_lt}
use native.Mathlib.Omega.{arith}
use mir.Val.{Fits}
use mir.Syntax.{w64}
use lib.Dec.{ltb, leb, eqb}
use lib.ListN.{length, get_or, take, drop, replicate, get_or-replicate, drop_of_length-le}
use lib.Seq.{take-nil}
use borrow.Author.Tests.{lt-ltb, le-ltb, le-leb, lt-leb, eq-eqb, ne_eqb}
use Rattle.model.specs.Limits.{max_pairs}
use Rattle.model.specs.Lists.{elem}
use Rattle.model.specs.Combination.{pair_member}
use Rattle.model.specs.LiveWords.{is_live, cleared, raised}
use Rattle.model.proofs.LiveWords.{cleared-is_live, raised-length, raised-is_live, raised_below}
use Rattle.layout.specs.Setting.{Whole}
use Rattle.worklist.specs.Pairs.{WaitToo, others, queues}

-- ---- The words of a queue

pub record Words (ws : List ℕ) : Type 0 where
  pub sixteen : length ws ≡ 16
  pub small : (i : ℕ) → i < length ws → get_or ws i 0 < 2 ^ 64

-- an array of sixteen words is one
pub words_of : (ws : List ℕ) → length ws ≡ 16 → ((i : ℕ) → Fits w64 (get_or ws i 0)) → Words ws
words_of ws l f = record { sixteen = l; small = λ i h. (f i).fits }

pub empty-words : Words (replicate 16 0)
empty-words = record { sixteen = refl; small = λ i h. let e = get_or-replicate {A = ℕ} 16 i 0 0 h in omega arith }

pub put-words : (ws : List ℕ) → Words ws → (p : ℕ) → Words (raised p ws)
put-words ws w p = record { sixteen = raised-length p ws ∙ w.sixteen; small = λ i h. raised_below p ws w.small i (omega (arith, raised-length p ws)) }

-- pair p waits too, and every other pair is as before
pub put-waits : (ws : List ℕ) → Words ws → (p : ℕ) → WaitToo ws (eqb p) (raised p ws)
put-waits ws w p q h = raised-is_live p ws w.small q (omega (arith, w.sixteen))

-- pair p waits no more, and every other pair is as before
pub take-waits : (ws : List ℕ) → Words ws → (p q : ℕ) → q < max_pairs → is_live (cleared p ws) q ≡ (is_live ws q && not (eqb p q))
take-waits ws w p q h = cleared-is_live p ws w.small q (omega (arith, w.sixteen))

-- one pair more from the front
pub ltb-more : (p q : ℕ) → (ltb q p || eqb p q) ≡ ltb q (p + 1)
ltb-more p q = go (ℕ_discrete p q) (dec_lt q p)
  where
    go : Dec (p ≡ q) → Dec (q < p) → (ltb q p || eqb p q) ≡ ltb q (p + 1)
    go d (yes h) = rw (lt-ltb q p h, lt-ltb q (p + 1) (omega arith))
    go (yes e) (no h) = rw (le-ltb q p (omega arith), eq-eqb p q e, lt-ltb q (p + 1) (omega arith))
    go (no d) (no h) = rw (le-ltb q p (omega arith), ne_eqb p q d, le-ltb q (p + 1) (omega arith))

-- ---- Pairs that wait too

pub wait-none : (ws : List ℕ) (f : ℕ → Bool) → ((q : ℕ) → f q ≡ false) → WaitToo ws f ws
wait-none ws f e q h = sym (ap (λ (b : Bool). is_live ws q || b) (e q) ∙ or-false (is_live ws q))

-- under a condition
module _ (f : ℕ → Bool) (v : Bool) where
  pub wait-if : (us ws : List ℕ) → v ≡ true → WaitToo us f ws → WaitToo us (λ (q : ℕ). v && f q) ws
  wait-if us ws e w = subst (λ (b : Bool). WaitToo us (λ (q : ℕ). b && f q) ws) (sym e) w

  pub wait-not : (ws : List ℕ) → v ≡ false → WaitToo ws (λ (q : ℕ). v && f q) ws
  wait-not ws e = wait-none ws (λ (q : ℕ). v && f q) (λ q. ap (λ (b : Bool). b && f q) e)

-- one test after the other
pub wait-then : (us vs ws : List ℕ) (f g both : ℕ → Bool) → WaitToo us f vs → WaitToo vs g ws → ((q : ℕ) → both q ≡ (f q || g q)) → WaitToo us both ws
wait-then us vs ws f g both a b e q h =
    b q h
    ∙ ap (λ (x : Bool). x || g q) (a q h)
    ∙ or_assoc (is_live us q) (f q) (g q)
    ∙ ap (λ (x : Bool). is_live us q || x) (sym (e q))

-- ---- The members of one combination

module _ (base : ℕ) (members : List ℕ) (r : ℕ) where
  pub others-none : (h : ℕ) → others base base members r h ≡ false
  unfolding others
  others-none h = go (dec_lt h base)
    where
      go : Dec (h < base) → (leb base h && ltb h base && not (eqb (pair_member members h) r)) ≡ false
      go (yes l) = rw (lt-leb base h l)
      go (no l) = rw (le-leb base h (omega arith), le-ltb h base (omega arith))

  -- one pair more
  pub others-next : (q : ℕ) → base ≤ q → (h : ℕ) → others base (q + 1) members r h ≡ (others base q members r h || (not (eqb (pair_member members q) r) && eqb q h))
  unfolding others
  others-next q from h = go (ℕ_discrete h q)
    where
      go : Dec (h ≡ q) → (leb base h && ltb h (q + 1) && not (eqb (pair_member members h) r)) ≡ (leb base h && ltb h q && not (eqb (pair_member members h) r) || (not (eqb (pair_member members q) r) && eqb q h))
      go (yes e) =
          let a : q ≡ h = sym e in
          rw (eq-eqb q h a, e, le-leb base q from, le-ltb q q (omega arith), lt-ltb q (q + 1) (omega arith), and-true)
      go (no d) =
          rw (ne_eqb q h (λ e. d (sym e)), and-false, or-false, ← ltb-more q h, ne_eqb q h (λ e. d (sym e)), or-false)

-- ---- The pairs that a removal queues

-- the test of the pairs of one combination and of those before it, by the parts of the range
block_more : (test : ℕ → Bool) (base end h : ℕ) (v : Bool) (members : List ℕ) (r : ℕ) → base ≤ end → (base ≤ h → h < end → test h ≡ (v && not (eqb (pair_member members h) r))) → (ltb h end && test h) ≡ (ltb h base && test h || (v && others base end members r h))
unfolding others
block_more test base end h v members r l same = go (dec_lt h base) (dec_lt h end)
  where
    go : Dec (h < base) → Dec (h < end) → (ltb h end && test h) ≡ (ltb h base && test h || (v && (leb base h && ltb h end && not (eqb (pair_member members h) r))))
    go (yes a) d = rw (lt-ltb h end (omega arith), lt-ltb h base a, lt-leb base h a, and-false, or-false)
    go (no a) (yes b) = rw (lt-ltb h end b, le-ltb h base (omega arith), le-leb base h (omega arith)) (same (omega arith) b)
    go (no a) (no b) = rw (le-ltb h end (omega arith), le-ltb h base (omega arith), le-leb base h (omega arith), and-false)

-- a removal in pair p's combination queues pairs of the combination from base on
abbrev pub visits : ℕ → List ℕ → ℕ → ℕ → Bool
visits m members p base = not (eqb (base / m) (p / m)) && elem (pair_member members p) (take m (drop base members))

-- pair h is one of those
abbrev pub adds : ℕ → List ℕ → ℕ → ℕ → ℕ → Bool
adds m members p base h = visits m members p base && others base (base + m) members (pair_member members p) h

-- a combination begins at a multiple of m, and so does the next
pub multiple-next : (m base : ℕ) → 0 < m → base / m * m ≡ base → (base + m) / m * m ≡ base + m
multiple-next m base pos e = let q = add-div_right base pos in rw q (omega arith)

module _ (m : ℕ) (members : List ℕ) (p : ℕ) (pairs : Whole m members) where
  -- p's own combination is not visited
  pub visits-own : (base : ℕ) → base ≡ p / m * m → visits m members p base ≡ false
  visits-own base e =
      let q : base / m ≡ p / m = ap (λ (x : ℕ). x / m) e ∙ mul-div_cancel (p / m) pairs.positive in
      rw (eq-eqb (base / m) (p / m) q)

  -- any other is where it holds p's relation
  pub visits-other : (base : ℕ) → base / m * m ≡ base → (base ≡ p / m * m → ⊥) → visits m members p base ≡ elem (pair_member members p) (take m (drop base members))
  visits-other base e d =
      let n : base / m ≡ p / m → ⊥ = λ q. d (sym e ∙ ap (λ (k : ℕ). k * m) q) in
      rw (ne_eqb (base / m) (p / m) n)

  queues-in : (base h : ℕ) → base / m * m ≡ base → base ≤ h → h < base + m → queues m members p h ≡ (visits m members p base && not (eqb (pair_member members h) (pair_member members p)))
  unfolding queues
  queues-in base h e a b =
      let k = base / m in
      let q : h / m ≡ k = div-eq_of_lt-le m (omega arith) (omega arith) in
      ap (λ (j : ℕ). not (eqb j (p / m)) && elem (pair_member members p) (take m (drop (j * m) members)) && not (eqb (pair_member members h) (pair_member members p))) q
      ∙ ap (λ (x : ℕ). not (eqb k (p / m)) && elem (pair_member members p) (take m (drop x members)) && not (eqb (pair_member members h) (pair_member members p))) e

  -- one combination more
  pub queues-more : (base h : ℕ) → base / m * m ≡ base → (ltb h (base + m) && queues m members p h) ≡ (ltb h base && queues m members p h || adds m members p base h)
  queues-more base h e = block_more (queues m members p) base (base + m) h (visits m members p base) members (pair_member members p) (omega arith) (queues-in base h e)

  -- past the last combination nothing is queued
  queues-past : (h : ℕ) → length members ≤ h → queues m members p h ≡ false
  unfolding queues
  queues-past h l =
      let a : length members / m ≤ h / m = (le-div_iff_mul-le pairs.positive).1 (omega (arith, pairs.whole)) in
      let b : length members ≤ h / m * m = omega (arith, mul-le-mul_right m a, pairs.whole) in
      rw (drop_of_length-le members b, take-nil, and-false)

  pub queues-all : (base h : ℕ) → length members ≤ base → (ltb h base && queues m members p h) ≡ queues m members p h
  queues-all base h l = go (dec_lt h base)
    where
      go : Dec (h < base) → (ltb h base && queues m members p h) ≡ queues m members p h
      go (yes a) = rw (lt-ltb h base a)
      go (no a) = rw (le-ltb h base (omega arith)) (sym (queues-past h (omega arith)))
