-- Ids set one after the other, words cut by others one after the other, and what is left once ids are removed.
-- From the model's laws of live words and of sets of tuples, and the laws of the machine's operations.
use mathlib.Core.Path.{◌≡◌, refl, sym, ap, ◌∙◌}
use mathlib.Core.Bool.{Bool, true, false, false≢true, not, ◌&&◌, ◌||◌, cond, and-true, and_assoc, or-false, or_assoc}
use mathlib.Core.List.{List, [], ◌∷◌}
use mathlib.Core.Logic.{⊎_elim}
use Prim.Native.Nat.{ℕ, ◌+◌, ◌-◌, ◌*◌, ◌/◌, ◌%◌, ◌^◌, ◌≤◌, ◌<◌, max}
use native.Mathlib.Nat.{lt_of_le_of_lt}
use native.Mathlib.Numerals.{add-one}
use native.Mathlib.Decide.{dec_lt}
use native.Mathlib.Omega.{arith}
use lib.Bits.{bit_and, and_le_l}
use lib.Dec.{eqb, leb, ltb}
use lib.ListN.{length, get_or, set, drop, replicate, length-set, get_or-replicate, drop_of_length-le}
use lib.Seq.{drop-cons, get_or-set_same, get_or-set_other}
use borrow.Author.Tests.{lt-ltb, le-ltb, ltb-true, ltb-false, le-leb, leb-true, eqb-true, ne_eqb}
use Rattle.model.specs.Limits.{max_tuples, word_bits}
use Rattle.model.specs.Lists.{elem}
use Rattle.model.specs.TupleSet.{has, without}
use Rattle.model.specs.Network.{Network}
use Rattle.model.specs.LiveWords.{is_set, is_live, living, written, raised}
use Rattle.model.specs.Request.{withdraw, removes}
use Rattle.model.proofs.Bools.{and_left, and_right, or_cases, iff-eq, and_intro}
use Rattle.model.proofs.Lists.{eqb-sym}
use Rattle.model.proofs.TupleSet.{restrict-has, without-length}
use Rattle.model.proofs.LiveWords.{words-ext, written-length, written-is_live, written_below, living-length, living-has, living-written, none-is_live, raised-length, raised-is_live, raised_below}
use Rattle.live.proofs.Bits.{is_set-and, is_set-not}
use Rattle.combination.specs.Proper.{below}
use Rattle.live.specs.Words.{Small, WordArray}
use Rattle.request.specs.Removal.{added, above, IdsOf, Holds, Room, without_ids}

-- no id is set in words of noughts
pub blank-full : WordArray (replicate 64 0)
blank-full = record { long = refl; small = λ k h. let e = get_or-replicate {A = ℕ} 64 k 0 0 h in omega arith }

-- one id more
pub raised-full : (g : ℕ) (ws : List ℕ) → WordArray ws → WordArray (raised g ws)
raised-full g ws f =
    record {
      long = raised-length g ws ∙ f.long;
      small = λ k l. raised_below g ws f.small k (omega (arith, raised-length g ws));
    }

-- ---- The ids of a list

module _ (g : ℕ) (ws : List ℕ) (full : WordArray ws) where
  pub added_full : WordArray (added g ws)
  unfolding added
  added_full = go (ltb g max_tuples)
    where
      go : (b : Bool) → WordArray (cond b (raised g ws) ws)
      go true = raised-full g ws full
      go false = full

  pub added-is_live : (h : ℕ) → h < max_tuples → is_live (added g ws) h ≡ (is_live ws h || eqb g h)
  unfolding added
  added-is_live h l = go (ltb g max_tuples) refl
    where
      go : (b : Bool) → ltb g max_tuples ≡ b → is_live (cond b (raised g ws) ws) h ≡ (is_live ws h || eqb g h)
      go true e = raised-is_live g ws full.small h (omega (arith, full.long))
      go false e =
          let none : eqb g h ≡ false = ne_eqb g h (λ f. omega (arith, ltb-false g max_tuples e)) in
          sym (or-false (is_live ws h)) ∙ ap (λ (b : Bool). is_live ws h || b) (sym none)

module _ (g : ℕ) (ws : List ℕ) where
  pub added-inside : g < max_tuples → added g ws ≡ raised g ws
  unfolding added
  added-inside h = rw (lt-ltb g max_tuples h)

  pub added-outside : max_tuples ≤ g → added g ws ≡ ws
  unfolding added
  added-outside h = rw (le-ltb g max_tuples h)

pub above_lower : (bound g : ℕ) → bound < g + 1 → above bound g ≡ g + 1
unfolding above
above_lower bound g h = rw (lt-ltb bound (g + 1) h)

pub above-higher : (bound g : ℕ) → g + 1 ≤ bound → above bound g ≡ bound
unfolding above
above-higher bound g h = rw (le-ltb bound (g + 1) h)

-- the bound raised above g is the greater of it and g + 1
pub above-max : (bound g n : ℕ) → n ≡ max bound (g + 1) → n ≡ above bound g
above-max bound g n e = go (dec_lt bound (g + 1))
  where
    go : Dec (bound < g + 1) → n ≡ above bound g
    go (yes l) = omega (arith, above_lower bound g l)
    go (no l) = let h : g + 1 ≤ bound = omega arith in omega (arith, above-higher bound g h)

-- a number is not below the bound with g where it is neither below the bound nor up to g
pub above-leb : (bound g n : ℕ) → leb (above bound g) n ≡ (leb bound n && ltb g n)
unfolding above
above-leb bound g n = go (ltb bound (g + 1)) refl
  where
    go : (b : Bool) → ltb bound (g + 1) ≡ b → leb (cond b (g + 1) bound) n ≡ (leb bound n && ltb g n)
    go true e =
        iff-eq (leb (g + 1) n) (leb bound n && ltb g n)
        (λ f. and_intro (le-leb bound n (omega (arith, ltb-true bound (g + 1) e, leb-true (g + 1) n f))) (lt-ltb g n (omega (arith, leb-true (g + 1) n f))))
        (λ f. le-leb (g + 1) n (omega (arith, ltb-true g n (and_right (leb bound n) (ltb g n) f))))
    go false e =
        iff-eq (leb bound n) (leb bound n && ltb g n)
        (λ f. and_intro f (lt-ltb g n (omega (arith, ltb-false bound (g + 1) e, leb-true bound n f))))
        (λ f. and_left (leb bound n) (ltb g n) f)

-- The words and the bound are those of the ids before place i, and with those from there on of all that are listed.
pub record Filled (ids words : List ℕ) (bound i : ℕ) : Type 0 where
  pub place : i ≤ length ids
  pub full : WordArray words
  pub rest : (g : ℕ) → g < max_tuples → (is_live words g || elem g (drop i ids)) ≡ elem g ids
  pub high : (n : ℕ) → (leb bound n && below n (drop i ids)) ≡ below n ids

module _ (ids : List ℕ) where
  pub filled-start : Filled ids (replicate 64 0) 0 0
  filled-start =
      record {
        place = omega arith;
        full = blank-full;
        rest = λ g h. ap (λ (b : Bool). b || elem g ids) (none-is_live 64 g);
        high = λ n. ap (λ (b : Bool). b && below n ids) (le-leb 0 n (omega arith));
      }

  module _ (words : List ℕ) (bound i : ℕ) (f : Filled ids words bound i) where
    next : i < length ids → (g : ℕ) → (eqb (get_or ids i 0) g || elem g (drop (i + 1) ids)) ≡ elem g (drop i ids)
    next h g = rw (drop-cons ids i 0 h, add-one, eqb-sym (get_or ids i 0) g)

    next-below : i < length ids → (n : ℕ) → (ltb (get_or ids i 0) n && below n (drop (i + 1) ids)) ≡ below n (drop i ids)
    next-below h n = rw (drop-cons ids i 0 h, add-one)

    pub filled_next : (final : List ℕ) (higher x : ℕ) → i < length ids → x ≡ get_or ids i 0 → final ≡ added x words → higher ≡ above bound x → Filled ids final higher (i + 1)
    filled_next final higher x h at e k =
        let added-one : Filled ids (added x words) (above bound x) (i + 1) =
        rw at record {
          place = omega arith;
          full = added_full (get_or ids i 0) words f.full;
          rest =
              λ g l.
              ap (λ (b : Bool). b || elem g (drop (i + 1) ids)) (added-is_live (get_or ids i 0) words f.full g l)
              ∙ or_assoc (is_live words g) (eqb (get_or ids i 0) g) (elem g (drop (i + 1) ids))
              ∙ ap (λ (b : Bool). is_live words g || b) (next h g)
              ∙ f.rest g l;
          high =
              λ n.
              ap (λ (b : Bool). b && below n (drop (i + 1) ids)) (above-leb bound (get_or ids i 0) n)
              ∙ and_assoc (leb bound n) (ltb (get_or ids i 0) n) (below n (drop (i + 1) ids))
              ∙ ap (λ (b : Bool). leb bound n && b) (next-below h n)
              ∙ f.high n;
        }
        in
        rw (e, k) added-one

    pub filled-end : length ids ≤ i → IdsOf (record { words = words; bound = bound }) ids
    filled-end past =
        let none : drop i ids ≡ [] = drop_of_length-le ids past in
        record {
          held = λ g h. sym (or-false (is_live words g)) ∙ ap (λ (xs : List ℕ). is_live words g || elem g xs) (sym none) ∙ f.rest g h;
          highest = λ n. sym (and-true (leb bound n)) ∙ ap (λ (xs : List ℕ). leb bound n && below n xs) (sym none) ∙ f.high n;
        }

-- ---- Words cut

-- `w & !r`
abbrev cut : ℕ → ℕ → ℕ
cut w r = bit_and w (2 ^ 64 - 1 - r)

-- The words before place i are cut, and all others are as at first.
pub record Cut (words₀ removed words : List ℕ) (i : ℕ) : Type 0 where
  pub long : length words ≡ length words₀
  pub done : (j : ℕ) → j < i → get_or words j 0 ≡ cut (get_or words₀ j 0) (get_or removed j 0)
  pub left : (j : ℕ) → i ≤ j → get_or words j 0 ≡ get_or words₀ j 0

module _ (words₀ removed : List ℕ) where
  pub cut-start : Cut words₀ removed words₀ 0
  cut-start = record { long = refl; done = λ j h. absurd (omega arith); left = λ j h. refl }

  module _ (words : List ℕ) (i : ℕ) (c : Cut words₀ removed words i) where
    pub cut-next : i < length words → Cut words₀ removed (set words i (cut (get_or words i 0) (get_or removed i 0))) (i + 1)
    cut-next h =
        let v = cut (get_or words i 0) (get_or removed i 0) in
        record {
          long = length-set words i v ∙ c.long;
          done = λ j l. at j l (dec_lt j i);
          left = λ j l. get_or-set_other words i j v 0 (λ e. omega arith) ∙ c.left j (omega arith);
        }
      where
        at : (j : ℕ) → j < i + 1 → Dec (j < i) → get_or (set words i (cut (get_or words i 0) (get_or removed i 0))) j 0 ≡ cut (get_or words₀ j 0) (get_or removed j 0)
        at j l (yes b) = get_or-set_other words i j (cut (get_or words i 0) (get_or removed i 0)) 0 (λ e. omega arith) ∙ c.done j b
        at j l (no b) =
            let e : j ≡ i = omega arith in
            rw e (get_or-set_same words i (cut (get_or words i 0) (get_or removed i 0)) 0 h ∙ ap (λ (w : ℕ). cut w (get_or removed i 0)) (c.left i (omega arith)))

    module _ (n : ℕ) (room : Room words₀ removed n) (small : Small words₀) (all : i ≡ (n + 63) / 64) where
      -- a bit of a word that is cut
      bit_cut : (g : ℕ) → g / 64 < i → is_live words g ≡ (is_live words₀ g && not (is_live removed g))
      unfolding is_live
      bit_cut g h =
          let w = get_or words₀ (g / 64) 0 in
          let r = get_or removed (g / 64) 0 in
          let few : g / 64 < length removed = omega (arith, room.few, room.full.long) in
          ap (λ (x : ℕ). is_set x (g % 64)) (c.done (g / 64) h)
          ∙ is_set-and w (2 ^ 64 - 1 - r) (g % 64)
          ∙ ap (λ (b : Bool). is_set w (g % 64) && b) (is_set-not 64 r (g % 64) (room.full.small (g / 64) few) (omega arith))

      bit_kept : (g : ℕ) → i ≤ g / 64 → is_live words g ≡ is_live words₀ g
      unfolding is_live
      bit_kept g h = ap (λ (x : ℕ). is_set x (g % 64)) (c.left (g / 64) h)

      -- no id from n on is removed
      past : (g : ℕ) → n ≤ g → Dec (g / 64 < i) → is_live words g ≡ is_live words₀ g
      past g h (yes l) =
          bit_cut g l
          ∙ ap (λ (b : Bool). is_live words₀ g && not b) (room.inside g h (omega (arith, room.few)))
          ∙ and-true (is_live words₀ g)
      past g h (no l) = bit_kept g (omega arith)

      bits : (g : ℕ) → Dec (g < n) → is_live words g ≡ cond (ltb g n) (has (without (is_live removed) (living n words₀)) g) (is_live words₀ g)
      bits g (yes h) =
          rw (lt-ltb g n h)
          (bit_cut g (omega arith)
          ∙ sym (restrict-has (λ g. not (is_live removed g)) (living n words₀) g ∙ ap (λ (b : Bool). b && not (is_live removed g)) (living-has n words₀ g h)))
      bits g (no h) = let l : n ≤ g = omega arith in rw (le-ltb g n l) (past g l (dec_lt (g / 64) i))

      -- a word that is cut is no larger
      still : (k : ℕ) → k < length words → Dec (k < i) → get_or words k 0 < 2 ^ 64
      still k h (yes l) = rw (c.done k l) (lt_of_le_of_lt (and_le_l (get_or words₀ k 0) (2 ^ 64 - 1 - get_or removed k 0)) (small k (omega (arith, c.long))))
      still k h (no l) = rw (c.left k (omega arith)) (small k (omega (arith, c.long)))

      pub cut-end : words ≡ without_ids n (is_live removed) words₀
      cut-end =
          let S = without (is_live removed) (living n words₀) in
          words-ext words (written n S words₀) (c.long ∙ sym (written-length n S words₀)) (λ k h. still k h (dec_lt k i))
          (λ k h. written_below n S words₀ k (omega (arith, written-length n S words₀)))
          (λ g h. bits g (dec_lt g n) ∙ sym (written-is_live n S words₀ g (omega (arith, c.long))))

-- ---- What is left

module _ (n : ℕ) (ws : List ℕ) where
  pub without_ids-length : (p : ℕ → Bool) → length (without_ids n p ws) ≡ length ws
  without_ids-length p = written-length n (without p (living n ws)) ws

  pub without_ids-living : (p : ℕ → Bool) → n ≤ word_bits * length ws → living n (without_ids n p ws) ≡ without p (living n ws)
  without_ids-living p h =
      living-written n (without p (living n ws)) ws (without-length p (living n ws) ∙ living-length n ws) h

-- Words that hold the ids below n that pass.
module _ (n : ℕ) (few : n ≤ max_tuples) (p : ℕ → Bool) (removed : List ℕ) (holds : Holds removed (λ (g : ℕ). ltb g n && p g)) where
  pub holds-room : (words : List ℕ) → n ≤ word_bits * length words → WordArray removed → Room words removed n
  holds-room words enough full =
      record {
        few = few;
        bits = enough;
        full = full;
        inside = λ g h l. holds g l ∙ ap (λ (b : Bool). b && p g) (le-ltb g n h);
      }

-- ---- The ids that withdraw lists

elem_below : (n g : ℕ) (ids : List ℕ) → below n ids ≡ true → elem g ids ≡ true → g < n
elem_below n g [] b e = absurd (false≢true e)
elem_below n g (x ∷ xs) b e =
    ⊎_elim
    (λ h. omega (arith, ltb-true x n (and_left (ltb x n) (below n xs) b), eqb-true g x h))
    (λ h. elem_below n g xs (and_right (ltb x n) (below n xs) b) h)
    (or_cases (eqb g x) (elem g xs) e)

pub withdraw-holds : (N : Network) (n : ℕ) (ids removed : List ℕ) → below n ids ≡ true → Holds removed (λ (g : ℕ). elem g ids) → Holds removed (λ (g : ℕ). ltb g n && removes N (withdraw ids) g)
unfolding removes
withdraw-holds N n ids removed b holds g h =
    holds g h
    ∙ iff-eq (elem g ids) (ltb g n && elem g ids)
    (λ e. and_intro (lt-ltb g n (elem_below n g ids b e)) e)
    (λ e. and_right (ltb g n) (elem g ids) e)
