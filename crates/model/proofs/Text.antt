-- Laws of the desk's text: the digits of a decimal, one digit more, and how long fields and lines are.
-- From the definitions alone.
use mathlib.Core.Path.{◌≡◌, refl, sym, ◌∙◌, ap, ap₂}
use mathlib.Core.Bool.{Bool, true, false}
use mathlib.Core.List.{List, [], ◌∷◌, ◌++◌, map, append_assoc}
use mathlib.Core.Logic.{◌⊎◌, inl, inr, ⊎_elim}
use Prim.Native.Nat.{ℕ, zero, suc, ◌+◌, ◌*◌, ◌-◌, ◌/◌, ◌%◌, ◌^◌, ◌≤◌, ◌<◌}
use native.Mathlib.Nat.{pow-zero, pow-succ', zero-add, add_assoc, mul_comm}
use native.Mathlib.Omega.{arith}
use lib.Dec.{ltb}
use lib.ListN.{length, take, drop, length-append}
use lib.Seq.{take_at}
use borrow.Author.Tests.{lt-ltb, le-ltb, ltb-true, ltb-false, le-leb}
use Rattle.model.specs.declared.Relation.{Relation}
use Rattle.model.specs.Lists.{from, each}
use Rattle.model.specs.Network.{Network, width, size, variables_in, values_in, before, first_id, relation_of, index_of, scope_of, values_at, tuple_of}
use Rattle.model.specs.Text.{max_code, comma, nought, digits_of, decimal, line_text, text_of, relation_lines, network_lines}
use Rattle.model.specs.Reading.{is_digit, joined}
use Rattle.model.proofs.Bools.{and_intro}
use Rattle.model.proofs.Lists.{map-from-shift, map-from-same, each_append, each-cong, each-from-shift, drop-behind, pieces, pieces-front}

-- ---- Digits

pub digits_of-small : (k n : ℕ) → n < 10 → digits_of (suc k) n ≡ (nought + n) ∷ []
digits_of-small k n h = rw (lt-ltb n 10 h)

pub digits_of-large : (k n : ℕ) → 10 ≤ n → digits_of (suc k) n ≡ digits_of k (n / 10) ++ ((nought + n % 10) ∷ [])
digits_of-large k n h = rw (le-ltb n 10 h)

pub small-or-large : (n : ℕ) → (n < 10) ⊎ (10 ≤ n)
small-or-large n = by (ltb n 10) refl
  where
    by : (b : Bool) → ltb n 10 ≡ b → (n < 10) ⊎ (10 ≤ n)
    by true e = inl (ltb-true n 10 e)
    by false e = inr (ltb-false n 10 e)

-- room for more digits than there are changes nothing
digits_of-room : (k n : ℕ) → n < 10 ^ k → 0 < k → digits_of (suc k) n ≡ digits_of k n
digits_of-room zero n h p = absurd (omega arith)
digits_of-room (suc k) n h p =
    ⊎_elim
    (λ (l : n < 10). digits_of-small (suc k) n l ∙ sym (digits_of-small k n l))
    (λ (l : 10 ≤ n).
    let q : n < 10 * 10 ^ k = rw pow-succ' at h in
    digits_of-large (suc k) n l
    ∙ ap (λ (t : List ℕ). t ++ ((nought + n % 10) ∷ [])) (digits_of-room k (n / 10) (omega arith) (room k n q l))
    ∙ sym (digits_of-large k n l))
    (small-or-large n)
  where
    room : (k n : ℕ) → n < 10 * 10 ^ k → 10 ≤ n → 0 < k
    room zero n q l = absurd (omega (arith, pow-zero 10))
    room (suc k) n q l = omega arith

pub digit-is_digit : (d : ℕ) → d < 10 → is_digit (nought + d) ≡ true
digit-is_digit d h = and_intro (le-leb nought (nought + d) (omega arith)) (le-leb (nought + d) (nought + 9) (omega arith))

digits_of-length : (k n : ℕ) → length (digits_of k n) ≤ k
digits_of-length zero n = omega arith
digits_of-length (suc k) n =
    ⊎_elim
    (λ (l : n < 10). rw (digits_of-small k n l) (omega arith))
    (λ (l : 10 ≤ n). let h = digits_of-length k (n / 10) in rw (digits_of-large k n l, length-append) (omega arith))
    (small-or-large n)

-- ---- Fields

pub decimal_digit : (d : ℕ) → d < 10 → decimal d ≡ (nought + d) ∷ []
unfolding decimal
decimal_digit d h = digits_of-small 9 d h

-- one digit more
pub decimal-more : (v d : ℕ) → 0 < v → d < 10 → 10 * v + d ≤ max_code → decimal (10 * v + d) ≡ decimal v ++ ((nought + d) ∷ [])
unfolding decimal
decimal-more v d p h m =
    let a : (10 * v + d) / 10 ≡ v = omega arith in
    let b : (10 * v + d) % 10 ≡ d = omega arith in
    digits_of-large 9 (10 * v + d) (omega arith) ∙ rw (a, b, digits_of-room 9 v (omega arith) (omega arith))

-- all but the last digit, and the last
pub decimal-large : (n : ℕ) → 10 ≤ n → n ≤ max_code → decimal n ≡ decimal (n / 10) ++ ((nought + n % 10) ∷ [])
decimal-large n l m =
    let e : 10 * (n / 10) + n % 10 ≡ n = omega arith in
    rw e at (decimal-more (n / 10) (n % 10) (omega arith) (omega arith) (omega arith))

pub decimal-length : (n : ℕ) → length (decimal n) ≤ 10
unfolding decimal
decimal-length n = digits_of-length 10 n

-- ---- Lines

-- a field before others
pub line_text-cons : (n : ℕ) (ns : List ℕ) → 1 ≤ length ns → line_text (n ∷ ns) ≡ decimal n ++ (comma ∷ line_text ns)
line_text-cons n [] h = absurd (omega arith)
line_text-cons n (k ∷ ks) h = refl

-- ten digits and the byte behind them, for each field
pub line_text-length : (n : ℕ) (ns : List ℕ) → length (line_text (n ∷ ns)) ≤ 11 * length (n ∷ ns)
line_text-length n [] = let h = decimal-length n in rw length-append (omega arith)
line_text-length n (k ∷ ks) = let h = decimal-length n in let l = line_text-length k ks in rw length-append (omega arith)

pub text_of-cons : (line : List ℕ) (lines : List (List ℕ)) → text_of (line ∷ lines) ≡ line_text line ++ text_of lines
unfolding text_of
text_of-cons line lines = refl

pub text_of-append : (xs ys : List (List ℕ)) → text_of (xs ++ ys) ≡ text_of xs ++ text_of ys
unfolding text_of
text_of-append xs ys = each_append line_text xs ys

-- .. and the same with more text behind
pub text_of-cons-rest : (line : List ℕ) (lines : List (List ℕ)) (rest : List ℕ) → text_of (line ∷ lines) ++ rest ≡ line_text line ++ (text_of lines ++ rest)
text_of-cons-rest line lines rest = ap (λ (t : List ℕ). t ++ rest) (text_of-cons line lines) ∙ append_assoc (line_text line) (text_of lines) rest

pub text_of-append-rest : (xs ys : List (List ℕ)) (rest : List ℕ) → text_of (xs ++ ys) ++ rest ≡ text_of xs ++ (text_of ys ++ rest)
text_of-append-rest xs ys rest = ap (λ (t : List ℕ). t ++ rest) (text_of-append xs ys) ∙ append_assoc (text_of xs) (text_of ys) rest

-- ---- A network's lines

-- a relation before others
module _ (R : Relation) (scope values : List ℕ) (N : Network) (scoped : length scope ≡ R.width) (valued : length values ≡ R.tuples * R.width) where
  abbrev J : Network
  J = joined R scope values N

  joined-scope_of : (r : ℕ) → scope_of J (suc r) ≡ scope_of N r
  unfolding scope_of
  joined-scope_of r = ap (take (width N r)) (drop-behind scope N.variables R.width (before variables_in N.relations r) scoped)

  joined-values_at : (r i : ℕ) → values_at J (suc r) i ≡ values_at N r i
  unfolding values_at
  joined-values_at r i =
      ap (λ (k : ℕ). take (width N r) (drop k (values ++ N.values))) (add_assoc (R.width * R.tuples) (before values_in N.relations r) (i * width N r))
      ∙ ap (take (width N r)) (drop-behind values N.values (R.width * R.tuples) (before values_in N.relations r + i * width N r) (valued ∙ mul_comm R.tuples R.width))

  joined-relation_of : (g : ℕ) → relation_of J (R.tuples + g) ≡ suc (relation_of N g)
  unfolding relation_of
  joined-relation_of g =
      let e : R.tuples + g - R.tuples ≡ g = omega arith in
      rw (le-ltb (R.tuples + g) R.tuples (omega arith), e)

  joined-index_of : (g : ℕ) → index_of J (R.tuples + g) ≡ index_of N g
  unfolding index_of
  joined-index_of g = rw (joined-relation_of g) (omega arith)

  joined-tuple_of : (g : ℕ) → tuple_of J (R.tuples + g) ≡ tuple_of N g
  unfolding tuple_of
  joined-tuple_of g = ap₂ (values_at J) (joined-relation_of g) (joined-index_of g) ∙ joined-values_at (relation_of N g) (index_of N g)

  joined-relation_lines : (r : ℕ) → relation_lines J (suc r) ≡ relation_lines N r
  joined-relation_lines r =
      ap₂ {C = List (List ℕ)} (λ scope tuples. (width N r ∷ size N r ∷ []) ∷ scope ∷ tuples) (joined-scope_of r)
      (map-from-shift (tuple_of J) R.tuples (first_id N r) (size N r)
      ∙ map-from-same (λ (g : ℕ). tuple_of J (R.tuples + g)) (tuple_of N) (first_id N r) (size N r) (λ g h l. joined-tuple_of g))

  joined-scope : scope_of J 0 ≡ scope
  unfolding scope_of
  joined-scope = take_at scope N.variables R.width scoped

  joined-tuple : (g : ℕ) → g < R.tuples → tuple_of J g ≡ take R.width (drop (g * R.width) (values ++ N.values))
  unfolding tuple_of index_of relation_of values_at
  joined-tuple g h =
      let z : g - 0 ≡ g = omega arith in
      let e : 0 + (g - 0) * R.width ≡ g * R.width = zero-add ((g - 0) * R.width) ∙ ap (λ (k : ℕ). k * R.width) z in
      rw (lt-ltb g R.tuples h, e)

  joined-tuples : map (tuple_of J) (from 0 R.tuples) ≡ pieces R.tuples R.width values
  joined-tuples =
      map-from-same (tuple_of J) (λ (g : ℕ). take R.width (drop (g * R.width) (values ++ N.values))) 0 R.tuples (λ g h l. joined-tuple g (omega arith))
      ∙ pieces-front R.tuples R.width values N.values valued

  joined-others : each (relation_lines J) (from 1 (length N.relations)) ≡ network_lines N
  joined-others =
      each-from-shift (relation_lines J) 1 0 (length N.relations)
      ∙ each-cong (λ (r : ℕ). relation_lines J (1 + r)) (relation_lines N) (from 0 (length N.relations))
      (λ r m. let e : 1 + r ≡ suc r = omega arith in ap (relation_lines J) e ∙ joined-relation_lines r)

  abbrev first_lines : List (List ℕ)
  first_lines = (R.width ∷ R.tuples ∷ []) ∷ scope ∷ pieces R.tuples R.width values

  -- the first relation's lines, and those of the others
  joined-lines : network_lines J ≡ first_lines ++ network_lines N
  joined-lines =
      ap₂ {C = List (List ℕ)} (λ first rest. (R.width ∷ R.tuples ∷ []) ∷ first ∷ rest) joined-scope
      (ap₂ {C = List (List ℕ)} (λ tuples others. tuples ++ others) joined-tuples joined-others)

  pub joined-text : (rest : List ℕ) → text_of (network_lines J) ++ rest ≡ line_text (R.width ∷ R.tuples ∷ []) ++ (line_text scope ++ (text_of (pieces R.tuples R.width values) ++ (text_of (network_lines N) ++ rest)))
  joined-text rest =
      let behind = text_of (network_lines N) ++ rest in
      ap (λ (lines : List (List ℕ)). text_of lines ++ rest) joined-lines
      ∙ text_of-append-rest first_lines (network_lines N) rest
      ∙ text_of-cons-rest (R.width ∷ R.tuples ∷ []) (scope ∷ pieces R.tuples R.width values) behind
      ∙ ap (λ (t : List ℕ). line_text (R.width ∷ R.tuples ∷ []) ++ t) (text_of-cons-rest scope (pieces R.tuples R.width values) behind)
