-- Laws of the tables: bits raised in a word, a class added to a row, and the tuples of a relation entered one after the other.
-- From the laws of bits, and of a list with one element set.
use mathlib.Core.Path.{◌≡◌, refl, sym, ◌∙◌, ap, subst}
use mathlib.Core.Bool.{true, false, not}
use mathlib.Core.List.{List}
use mathlib.Core.Logic.{◌⊎◌, inl, inr, ⊎_elim}
use Prim.Native.Nat.{ℕ, ◌+◌, ◌*◌, ◌/◌, ◌%◌, ◌^◌, ◌≤◌, ◌<◌}
use native.Mathlib.Decide.{ℕ_discrete, dec_lt}
use native.Mathlib.Nat.{lt_of_not-le}
use native.Mathlib.Omega.{arith}
use lib.Bits.{bit_or}
use lib.ListN.{length, get_or, set, replicate, length-set, length-replicate}
use lib.Seq.{get_or-set_same, get_or-set_other}
use borrow.Author.Tests.{eq-eqb}
use Rattle.model.specs.Network.{Network, size, first_id}
use Rattle.model.specs.LiveWords.{is_set, is_live}
use Rattle.model.proofs.Bools.{not-both, or_left, or_right}
use Rattle.live.proofs.Bits.{is_set-nought, is_set-or, is_set-pow, is_set-not}
use Rattle.bridging.specs.Bridge.{raised, Has, Of, Adds, Reaches, class_at}

-- ---- Bits raised in a word

module _ (table : List ℕ) (word bits : ℕ) where
  pub raised_long : length (raised word bits table) ≡ length table
  unfolding raised
  raised_long = length-set table word (bit_or (get_or table word 0) bits)

  module _ (h : word < length table) where
    -- what was set stays
    pub raised-stays : (i k : ℕ) → is_set (get_or table i 0) k ≡ true → is_set (get_or (raised word bits table) i 0) k ≡ true
    unfolding raised
    raised-stays i k b = go (ℕ_discrete i word)
      where
        new : ℕ
        new = bit_or (get_or table word 0) bits

        go : Dec (i ≡ word) → is_set (get_or (set table word new) i 0) k ≡ true
        go (yes e) =
            ap (λ (j : ℕ). is_set (get_or (set table word new) j 0) k) e
            ∙ ap (λ (w : ℕ). is_set w k) (get_or-set_same table word new 0 h)
            ∙ is_set-or (get_or table word 0) bits k
            ∙ or_left (is_set bits k) (ap (λ (j : ℕ). is_set (get_or table j 0) k) (sym e) ∙ b)
        go (no d) = ap (λ (w : ℕ). is_set w k) (get_or-set_other table word i new 0 d) ∙ b

    -- .. and the bits are
    pub raised-has : (k : ℕ) → is_set bits k ≡ true → is_set (get_or (raised word bits table) word 0) k ≡ true
    unfolding raised
    raised-has k b =
        ap (λ (w : ℕ). is_set w k) (get_or-set_same table word (bit_or (get_or table word 0) bits) 0 h)
        ∙ is_set-or (get_or table word 0) bits k
        ∙ or_right (is_set (get_or table word 0) k) b

-- ---- A class added to a row

module _ (table : List ℕ) (long : length table ≡ 1032) (row : ℕ) (inside : row ≤ 257) where
  pub adds_one : (class : ℕ) → class < 256 → Adds row class table (raised (4 * row + class / 64) (2 ^ (class % 64)) table)
  adds_one class h =
      let word = 4 * row + class / 64 in
      let l : word < length table = omega (arith, long) in
      record {
        long = raised_long table word (2 ^ (class % 64)) ∙ long;
        stays = λ r c b. raised-stays table word (2 ^ (class % 64)) l (4 * r + c / 64) (c % 64) b;
        added = λ c b. ⊎_elim
            (λ e. absurd (omega (arith, e, h)))
            (λ e. subst (Has (raised word (2 ^ (class % 64)) table) row) e (raised-has table word (2 ^ (class % 64)) l (class % 64) (is_set-pow (class % 64) (class % 64) ∙ eq-eqb (class % 64) (class % 64) refl)));
      }

  -- of any all classes, where the words of the row have all bits, and the others stay
  pub adds-all : (class : ℕ) (after : List ℕ) → length after ≡ 1032 → ((i : ℕ) → 4 * row ≤ i → i < 4 * row + 4 → get_or after i 0 ≡ 18446744073709551615) → ((i : ℕ) → (i < 4 * row) ⊎ (4 * row + 4 ≤ i) → get_or after i 0 ≡ get_or table i 0) → Adds row class table after
  adds-all class after full own others =
      record {
        long = full;
        stays = λ r c b. go (4 * r + c / 64) (c % 64) (omega arith) b (dec_lt (4 * r + c / 64) (4 * row)) (dec_lt (4 * r + c / 64) (4 * row + 4));
        added = λ c h _. set (4 * row + c / 64) (c % 64) (omega arith) (omega arith) (omega (arith, h));
      }
    where
      set : (i k : ℕ) → k < 64 → 4 * row ≤ i → i < 4 * row + 4 → is_set (get_or after i 0) k ≡ true
      set i k h a b = ap (λ (w : ℕ). is_set w k) (own i a b) ∙ is_set-not 64 0 k (omega arith) h ∙ ap not (is_set-nought k)

      go : (i k : ℕ) → k < 64 → is_set (get_or table i 0) k ≡ true → Dec (i < 4 * row) → Dec (i < 4 * row + 4) → is_set (get_or after i 0) k ≡ true
      go i k h b (yes l) d = ap (λ (w : ℕ). is_set w k) (others i (inl l)) ∙ b
      go i k h b (no l) (yes u) = set i k h (omega (arith, l)) u
      go i k h b (no l) (no u) = ap (λ (w : ℕ). is_set w k) (others i (inr (omega (arith, u)))) ∙ b

-- ---- The tuples of a relation

module _ (N : Network) (s key over factor : ℕ) (words : List ℕ) where
  -- those below id g are entered
  pub record ReachesBelow (table : List ℕ) (g : ℕ) : Type 0 where
    pub long : length table ≡ 1032
    pub own : (z c : ℕ) → z < size N s → first_id N s + z < g → is_live words (first_id N s + z) ≡ true → c < 256 → Of (class_at N s z over factor) c → Has table (class_at N s z key factor) c
    pub all : (z c : ℕ) → z < size N s → first_id N s + z < g → is_live words (first_id N s + z) ≡ true → c < 256 → Of (class_at N s z over factor) c → Has table 257 c

  -- none is before the first
  pub reaches-none : (g : ℕ) → g ≤ first_id N s → ReachesBelow (replicate 1032 0) g
  reaches-none g low =
      record {
        long = let z : ℕ = 0 in length-replicate 1032 z;
        own = λ z c h b l. absurd (omega (arith, b, low));
        all = λ z c h b l. absurd (omega (arith, b, low));
      }

  -- no live one is from g to h
  pub reaches-on : {table : List ℕ} {g h : ℕ} → ReachesBelow table g → ((i : ℕ) → g ≤ i → i < h → is_live words i ≡ false) → ReachesBelow table h
  reaches-on R none =
      record {
        long = R.long;
        own = λ z c hz b l. R.own z c hz (lt_of_not-le (λ le. not-both l (none _ le b))) l;
        all = λ z c hz b l. R.all z c hz (lt_of_not-le (λ le. not-both l (none _ le b))) l;
      }

  -- one more
  module _ {table first second : List ℕ} (y h : ℕ) (behind : h ≡ first_id N s + y + 1) (so_far : ReachesBelow table (first_id N s + y)) (row class : ℕ) (is_row : row ≡ class_at N s y key factor) (is-class : class ≡ class_at N s y over factor) (A : Adds row class table first) (B : Adds 257 class first second) where
    of-y : (z c : ℕ) → z ≡ y → Of (class_at N s z over factor) c → Of class c
    of-y z c e o = subst (λ (n : ℕ). Of n c) (ap (λ (i : ℕ). class_at N s i over factor) e ∙ sym is-class) o

    pub reaches_more : ReachesBelow second h
    reaches_more =
        record {
          long = B.long;
          own = λ z c hz below live hc o. own z c hz below live hc o (dec_lt z y) (ℕ_discrete z y);
          all = λ z c hz below live hc o. all z c hz below live hc o (dec_lt z y) (ℕ_discrete z y);
        }
      where
        own : (z c : ℕ) → z < size N s → first_id N s + z < h → is_live words (first_id N s + z) ≡ true → c < 256 → Of (class_at N s z over factor) c → Dec (z < y) → Dec (z ≡ y) → Has second (class_at N s z key factor) c
        own z c hz below live hc o (yes l) d = B.stays (class_at N s z key factor) c (A.stays (class_at N s z key factor) c (so_far.own z c hz (omega (arith, l)) live hc o))
        own z c hz below live hc o (no l) (yes e) =
            subst (λ (n : ℕ). Has second n c) (is_row ∙ ap (λ (i : ℕ). class_at N s i key factor) (sym e)) (B.stays row c (A.added c hc (of-y z c e o)))
        own z c hz below live hc o (no l) (no d) = absurd (omega (arith, l, d, below, behind))

        all : (z c : ℕ) → z < size N s → first_id N s + z < h → is_live words (first_id N s + z) ≡ true → c < 256 → Of (class_at N s z over factor) c → Dec (z < y) → Dec (z ≡ y) → Has second 257 c
        all z c hz below live hc o (yes l) d = B.stays 257 c (A.stays 257 c (so_far.all z c hz (omega (arith, l)) live hc o))
        all z c hz below live hc o (no l) (yes e) = B.added c hc (of-y z c e o)
        all z c hz below live hc o (no l) (no d) = absurd (omega (arith, l, d, below, behind))

  -- all of them
  pub reaches_end : (table : List ℕ) (g : ℕ) → first_id N s + size N s ≤ g → ReachesBelow table g → Reaches N s key over factor words table
  reaches_end table g e R =
      record {
        long = R.long;
        own = λ z c h l. R.own z c h (omega (arith, h, e)) l;
        all = λ z c h l. R.all z c h (omega (arith, h, e)) l;
      }
