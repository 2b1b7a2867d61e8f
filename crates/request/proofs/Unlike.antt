-- Which tuples choose removes: of one relation those with another value in the variable's column, and of all relations
-- those of one after the other.
-- From the laws of places and columns, and what the model says of a tuple by its relation and index.
use mathlib.Core.Path.{◌≡◌, refl, sym, ap, subst, ◌∙◌}
use mathlib.Core.Bool.{Bool, true, false, not, ◌&&◌, ◌||◌, and-true, and-false, or-false, or_assoc}
use mathlib.Core.List.{List}
use Prim.Native.Nat.{ℕ, ◌+◌, ◌-◌, ◌*◌, ◌≤◌, ◌<◌}
use native.Mathlib.Nat.{suc-mul}
use native.Mathlib.Numerals.{add-one}
use native.Mathlib.Decide.{dec_lt, ℕ_discrete}
use native.Mathlib.Omega.{arith}
use lib.Dec.{leb, ltb, eqb}
use lib.ListN.{length, get_or, replicate}
use borrow.Author.Tests.{le-leb, lt-leb, lt-ltb, le-ltb, eq-eqb, ne_eqb}
use Rattle.model.specs.Limits.{max_relations, variable_count}
use Rattle.model.specs.Lists.{all, pairwise}
use Rattle.model.specs.Network.{Network, width, size, total, tuples_in, first_id, scope_of}
use Rattle.model.specs.Agreement.{is_any, fit}
use Rattle.model.specs.LiveWords.{is_live, raised}
use Rattle.model.specs.Request.{choose, removes}
use Rattle.model.specs.Fault.{different}
use Rattle.model.proofs.Bools.{and_right}
use Rattle.model.proofs.Network.{before-past}
use Rattle.model.proofs.LiveWords.{none-is_live, raised-is_live}
use Rattle.model.proofs.Request.{choose-without, choose-at, choose-any}
use Rattle.layout.specs.Starts.{tuple_start, value_start, records_in}
use Rattle.layout.specs.Columns.{column_of}
use Rattle.layout.specs.Setting.{Lists, network_in, SoundLists}
use Rattle.layout.proofs.SoundStarts.{relations-few, tuple-start, ids-rise}
use Rattle.layout.proofs.Places.{exists, scope-length, values_length, value-at}
use Rattle.layout.proofs.Columns.{column-found, column-none}
use Rattle.live.specs.Words.{WordArray}
use Rattle.request.specs.Removal.{Holds, between, removed_by, removed_in, Added}
use Rattle.layout.proofs.Inside.{scope-proper, index_below, index_back, value-within}
use Rattle.request.proofs.Removed.{raised-full}

-- ---- Ids from one on and below another

between_in : (a b g : ℕ) → a ≤ g → g < b → between a b g ≡ true
between_in a b g h l = rw (le-leb a g h, lt-ltb g b l) refl

between-below : (a b g : ℕ) → g < a → between a b g ≡ false
between-below a b g h = rw (lt-leb a g h) refl

between-above : (a b g : ℕ) → b ≤ g → between a b g ≡ false
between-above a b g h = ap (λ (c : Bool). leb a g && c) (le-ltb g b h) ∙ and-false (leb a g)

or-and : (a b p : Bool) → (a && p || b && p) ≡ ((a || b) && p)
or-and true b true = refl
or-and true true false = refl
or-and true false false = refl
or-and false b p = refl

between_join : (a b c g : ℕ) → a ≤ b → b ≤ c → Dec (g < a) → Dec (g < b) → Dec (g < c) → (between a b g || between b c g) ≡ between a c g
between_join a b c g h l (yes x) y z = rw (between-below a b g x, between-below b c g (omega arith), between-below a c g x) refl
between_join a b c g h l (no x) (yes y) z = rw (between_in a b g (omega arith) y, between_in a c g (omega arith) (omega arith)) refl
between_join a b c g h l (no x) (no y) (yes z) = rw (between-above a b g (omega arith), between_in b c g (omega arith) z, between_in a c g (omega arith) z) refl
between_join a b c g h l (no x) (no y) (no z) = rw (between-above a b g (omega arith), between-above b c g (omega arith), between-above a c g (omega arith)) refl

module _ (p : ℕ → Bool) where
  -- those of them that pass
  abbrev span : ℕ → ℕ → ℕ → Bool
  span a b g = between a b g && p g

  span-join : (a b c g : ℕ) → a ≤ b → b ≤ c → (span a b g || span b c g) ≡ span a c g
  span-join a b c g h l =
      or-and (between a b g) (between b c g) (p g)
      ∙ ap (λ (x : Bool). x && p g) (between_join a b c g h l (dec_lt g a) (dec_lt g b) (dec_lt g c))

  span_none : (a g : ℕ) → Dec (g < a) → span a a g ≡ false
  span_none a g (yes h) = ap (λ (x : Bool). x && p g) (between-below a a g h)
  span_none a g (no h) = ap (λ (x : Bool). x && p g) (between-above a a g (omega arith))

  span-one : (a g : ℕ) (c : Bool) → p a ≡ c → Dec (g ≡ a) → span a (a + 1) g ≡ (eqb a g && c)
  span-one a g c e (yes h) = rw (h, between_in a (a + 1) a (omega arith) (omega arith), eq-eqb a a refl, e) refl
  span-one a g c e (no h) = apart (dec_lt g a)
    where
      apart : Dec (g < a) → span a (a + 1) g ≡ (eqb a g && c)
      apart (yes l) = rw (between-below a (a + 1) g l, ne_eqb a g (λ q. h (sym q))) refl
      apart (no l) = rw (between-above a (a + 1) g (omega arith), ne_eqb a g (λ q. h (sym q))) refl

  module _ (ws : List ℕ) (a : ℕ) where
    pub added_none : WordArray ws → Added ws ws (span a a)
    added_none full =
        record { full = full; bits = λ g h. sym (ap (λ (x : Bool). is_live ws g || x) (span_none a g (dec_lt g a)) ∙ or-false (is_live ws g)) }

    module _ (vs : List ℕ) (b : ℕ) (h : a ≤ b) (added : Added ws vs (span a b)) where
      more : (g : ℕ) (c : Bool) → p b ≡ c → (is_live ws g || span a b g || (eqb b g && c)) ≡ (is_live ws g || span a (b + 1) g)
      more g c e =
          or_assoc (is_live ws g) (span a b g) (eqb b g && c)
          ∙ ap (λ (x : Bool). is_live ws g || x)
          (ap (λ (x : Bool). span a b g || x) (sym (span-one b g c e (ℕ_discrete g b))) ∙ span-join a b (b + 1) g h (omega arith))

      -- the next id passes, and is set
      pub added-set : p b ≡ true → (us : List ℕ) → us ≡ raised b vs → Added ws us (span a (b + 1))
      added-set e us q =
          let set : Added ws (raised b vs) (span a (b + 1)) =
          record {
            full = raised-full b vs added.full;
            bits =
                λ g l.
                raised-is_live b vs added.full.small g (omega (arith, added.full.long))
                ∙ ap (λ (x : Bool). x || eqb b g) (added.bits g l)
                ∙ ap (λ (x : Bool). is_live ws g || span a b g || x) (sym (and-true (eqb b g)))
                ∙ more g true e;
          }
          in
          rw q set

      -- it does not
      pub added-kept : p b ≡ false → Added ws vs (span a (b + 1))
      added-kept e =
          record {
            full = added.full;
            bits =
                λ g l.
                added.bits g l
                ∙ sym (or-false (is_live ws g || span a b g))
                ∙ ap (λ (x : Bool). is_live ws g || span a b g || x) (sym (and-false (eqb b g)))
                ∙ more g false e;
          }

-- ---- The tuples of one relation

-- the values in one column stand a width apart
pub place-next : (a f g w k : ℕ) → f ≤ g → a + (g - f) * w + k + w ≡ a + (g + 1 - f) * w + k
place-next a f g w k h =
    let e : g + 1 - f ≡ g - f + 1 = omega arith in
    let d : (g - f + 1) * w ≡ (g - f) * w + w = rw add-one (suc-mul (g - f) w) in
    rw e (omega arith)

module _ {L : Lists} (laid : SoundLists L) (r : ℕ) (h : r < max_relations) where
  abbrev N : Network
  N = network_in L

  abbrev xs : List ℕ
  xs = L.starts

  different-variables : r < length (records_in xs) → pairwise different (scope_of N r) ≡ true
  different-variables l =
      and_right (all (λ (x : ℕ). ltb x variable_count) (scope_of N r)) (pairwise different (scope_of N r)) (scope-proper laid r l)

  module _ (x : ℕ) where
    abbrev column : ℕ
    column = column_of x (scope_of N r)

    -- where the value of tuple g under variable x stands
    abbrev pub value_at : ℕ → ℕ
    value_at g = value_start xs r + (g - tuple_start xs r) * width N r + column

    module _ (g : ℕ) (low : tuple_start xs r ≤ g) (high : g < tuple_start xs (r + 1)) where
      abbrev i : ℕ
      i = g - tuple_start xs r

      index : i < size N r
      index = index_below laid r g h low high

      back : first_id N r + i ≡ g
      back = index_back laid r g h low high

      pub place-within : column < width N r → value_at g < length L.values
      place-within l = value-within laid r i index column l

      module _ (v : ℕ) where
        pub unlike-column : column < width N r → removes N (choose x v) g ≡ not (fit (get_or L.values (value_at g) 0) v)
        unlike-column l =
            let m : column < length (scope_of N r) = omega (arith, scope-length laid r h) in
            ap (removes N (choose x v)) (sym back)
            ∙ choose-at N x v r i index column (scope-length laid r h ∙ sym (values_length laid r i index)) (different-variables (exists laid r i index)) m (column-found x (scope_of N r) m)
            ∙ ap (λ (y : ℕ). not (fit y v)) (value-at laid r i index column l)

        pub unlike-none : width N r ≤ column → removes N (choose x v) g ≡ false
        unlike-none l =
            ap (removes N (choose x v)) (sym back)
            ∙ choose-without N x v r i index (column-none x (scope_of N r) (omega (arith, scope-length laid r h)))

    -- a relation without the variable adds none
    pub unlike-absent : (v : ℕ) (ws : List ℕ) → WordArray ws → width N r ≤ column → Added ws ws (removed_in L r (choose x v))
    unlike-absent v ws full l =
        record { full = full; bits = λ g _. sym (ap (λ (y : Bool). is_live ws g || y) (none g (dec_lt g (tuple_start xs r)) (dec_lt g (tuple_start xs (r + 1)))) ∙ or-false (is_live ws g)) }
      where
        none : (g : ℕ) → Dec (g < tuple_start xs r) → Dec (g < tuple_start xs (r + 1)) → removed_in L r (choose x v) g ≡ false
        none g (yes a) b = ap (λ (y : Bool). y && removes N (choose x v) g) (between-below (tuple_start xs r) (tuple_start xs (r + 1)) g a)
        none g (no a) (yes b) =
            ap (λ (y : Bool). between (tuple_start xs r) (tuple_start xs (r + 1)) g && y) (unlike-none g (omega arith) b v l)
            ∙ and-false (between (tuple_start xs r) (tuple_start xs (r + 1)) g)
        none g (no a) (no b) = ap (λ (y : Bool). y && removes N (choose x v) g) (between-above (tuple_start xs r) (tuple_start xs (r + 1)) g (omega arith))

-- ---- One relation after the other

-- The words are those of the start with what the relations before r add.
pub record Unlike (L : Lists) (x v : ℕ) (ws₀ ws : List ℕ) (r : ℕ) : Type 0 where
  pub few : r ≤ length (records_in L.starts)
  pub added : Added ws₀ ws (λ (g : ℕ). between 0 (tuple_start L.starts r) g && removes (network_in L) (choose x v) g)

module _ {L : Lists} (laid : SoundLists L) (x v : ℕ) (ws₀ : List ℕ) where
  pub unlike-start : WordArray ws₀ → Unlike L x v ws₀ ws₀ 0
  unlike-start full =
      let e : 0 ≡ tuple_start L.starts 0 = sym (tuple-start laid.framed 0 (omega arith)) in
      record {
        few = omega arith;
        added = subst (λ (n : ℕ). Added ws₀ ws₀ (λ (g : ℕ). between 0 n g && removes (network_in L) (choose x v) g)) e (added_none (removes (network_in L) (choose x v)) ws₀ 0 full);
      }

  module _ (ws : List ℕ) (r : ℕ) (u : Unlike L x v ws₀ ws r) where
    pub unlike-next : (us : List ℕ) → r < length (records_in L.starts) → Added ws us (removed_in L r (choose x v)) → Unlike L x v ws₀ us (r + 1)
    unlike-next us l more =
        record {
          few = omega arith;
          added = record {
            full = more.full;
            bits =
                λ g k.
                more.bits g k
                ∙ ap (λ (y : Bool). y || removed_in L r (choose x v) g) (u.added.bits g k)
                ∙ or_assoc (is_live ws₀ g) _ (removed_in L r (choose x v) g)
                ∙ ap (λ (y : Bool). is_live ws₀ g || y)
                (span-join (removes (network_in L) (choose x v)) 0 (tuple_start L.starts r) (tuple_start L.starts (r + 1)) g (omega arith) (ids-rise laid.framed r (omega (arith, relations-few laid.framed))));
          };
        }

    pub unlike-end : length (records_in L.starts) ≤ r → Added ws₀ ws (removed_by (network_in L) (choose x v))
    unlike-end l =
        let N = network_in L in
        let e : tuple_start L.starts r ≡ total N = tuple-start laid.framed r (omega (arith, u.few, relations-few laid.framed)) ∙ before-past tuples_in (records_in L.starts) r l in
        record {
          full = u.added.full;
          bits =
              λ g k.
              u.added.bits g k
              ∙ ap (λ (n : ℕ). is_live ws₀ g || (between 0 n g && removes N (choose x v) g)) e
              ∙ ap (λ (y : Bool). is_live ws₀ g || (y && ltb g (total N) && removes N (choose x v) g)) (le-leb 0 g (omega arith));
        }

  -- any adds none
  pub unlike-any : WordArray ws₀ → is_any v ≡ true → Added ws₀ ws₀ (removed_by (network_in L) (choose x v))
  unlike-any full e =
      let N = network_in L in
      record {
        full = full;
        bits =
            λ g k.
            sym
            (ap (λ (y : Bool). is_live ws₀ g || (ltb g (total N) && y)) (choose-any N x v g e)
            ∙ ap (λ (y : Bool). is_live ws₀ g || y) (and-false (ltb g (total N)))
            ∙ or-false (is_live ws₀ g));
      }

-- what is added to no id at all is all that is held
pub added-holds : (ws : List ℕ) (p : ℕ → Bool) → Added (replicate 64 0) ws p → Holds ws p
added-holds ws p added g h = added.bits g h ∙ ap (λ (y : Bool). y || p g) (none-is_live 64 g)
