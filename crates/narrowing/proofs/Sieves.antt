-- Laws of a sieve: the bits of values that fit, and of live tuples, one tuple after the other; the tuples that pass; and that none which agrees with a
-- live tuple is lost. From the laws of agreement by places, of bits, and of where a value stands.
use mathlib.Core.Path.{◌≡◌, refl, sym, ◌∙◌, ap}
use mathlib.Core.Bool.{Bool, true, false, not, ◌||◌}
use mathlib.Core.List.{List}
use Prim.Native.Nat.{ℕ, ◌+◌, ◌-◌, ◌*◌, ◌≤◌, ◌<◌}
use native.Mathlib.Omega.{arith}
use native.Mathlib.Decide.{ℕ_discrete, dec_lt, dec_le}
use borrow.Author.Tests.{eq-eqb, ne_eqb, le-leb, lt-leb}
use lib.Bits.{bit_and, bit_or}
use lib.Dec.{eqb}
use lib.ListN.{length, get_or}
use Rattle.model.specs.Network.{Network, width, size, first_id, scope_of, values_at}
use Rattle.model.specs.Agreement.{is_any, fit, agree}
use Rattle.model.specs.LiveWords.{is_set, is_live}
use Rattle.model.proofs.Bools.{or_left, or_right}
use Rattle.model.proofs.Agreement.{fit-equal, agree_at}
use Rattle.live.proofs.Bits.{is_set-nought, is_set-or, is_set-pow, is_set-not, and_none}
use Rattle.layout.specs.declared.Place.{Place}
use Rattle.layout.specs.Starts.{value_start}
use Rattle.layout.specs.Places.{place_at}
use Rattle.layout.specs.Setting.{Lists, network_in, SoundLists}
use Rattle.layout.proofs.SoundStarts.{width-in, columns-few}
use Rattle.layout.proofs.Places.{below-limit, scope-length, values_length, value-at, place-within}
use Rattle.value_index.proofs.ValueRows.{mixed-below}
use Rattle.narrowing.specs.declared.sieve.Shared.{Shared}
use Rattle.narrowing.specs.declared.sieve.Sieve.{Sieve}
use Rattle.narrowing.specs.Sieve.{all_or, bit_of, bits_of, value_in, bits_at, passes_sieve, Sieves, SharedIn, Masks}
use Rattle.narrowing.proofs.TupleRows.{values-fit}

-- ---- The bits of a value

-- any has all bits
bits-any : (v k : ℕ) → is_any v ≡ true → k < 64 → is_set (bits_of v) k ≡ true
unfolding bits_of
bits-any v k e h =
    ap (λ (b : Bool). is_set (all_or b (bit_of v)) k) e ∙ is_set-not 64 0 k (omega arith) h ∙ ap not (is_set-nought k)

-- every value has one
bits-some : (v : ℕ) → (k : ℕ) × (k < 64) × (is_set (bits_of v) k ≡ true)
unfolding bits_of
bits-some v = go (is_any v) refl
  where
    go : (b : Bool) → is_any v ≡ b → (k : ℕ) × (k < 64) × (is_set (bits_of v) k ≡ true)
    go true e = (0, omega arith, bits-any v 0 e (omega arith))
    go false e =
        let k = bit_of v in
        (k, omega (arith, mixed-below v), ap (λ (b : Bool). is_set (all_or b k) k) e ∙ is_set-pow k k ∙ eq-eqb k k refl)

-- values that fit have one in common
pub bits-meet : (v w : ℕ) → fit v w ≡ true → (k : ℕ) × (is_set (bits_of v) k ≡ true) × (is_set (bits_of w) k ≡ true)
bits-meet v w e = go (is_any v) (is_any w) refl refl
  where
    go : (b d : Bool) → is_any v ≡ b → is_any w ≡ d → (k : ℕ) × (is_set (bits_of v) k ≡ true) × (is_set (bits_of w) k ≡ true)
    go true d p q = let s = bits-some w in (s.0, bits-any v s.0 p s.1, s.2)
    go false true p q = let s = bits-some v in (s.0, s.2, bits-any w s.0 q s.1)
    go false false p q = let s = bits-some v in (s.0, s.2, ap (λ (u : ℕ). is_set (bits_of u) s.0) (sym (fit-equal v w p q e)) ∙ s.2)

-- where the value in column c of tuple x stands
module _ {L : Lists} (laid : SoundLists L) (r x c : ℕ) (own : x < size (network_in L) r) (inside : c < width (network_in L) r) (p : Place) (e : p ≡ place_at L.starts r x) where
  pub place-below : p.tuple + c < length L.values
  place-below =
      let w = place-within laid r x own p e in
      let l : p.scope_end - p.scope ≡ width (network_in L) r = ap (λ (q : Place). q.scope_end - q.scope) e ∙ width-in laid.framed r (below-limit laid r x own) in
      omega (arith, w.tuple, w.values, w.widths, l, inside)

  pub place-value : get_or L.values (p.tuple + c) 0 ≡ value_in (network_in L) r x c
  place-value =
      let s = width-in laid.framed r (below-limit laid r x own) in
      ap (λ (q : Place). get_or L.values (q.tuple + c) 0) e
      ∙ ap (λ (w : ℕ). get_or L.values (value_start L.starts r + x * w + c) 0) s
      ∙ sym (value-at laid r x own c inside)

-- ---- The bits of live tuples

module _ (N : Network) (s column : ℕ) (words : List ℕ) where
  -- of those below id g
  abbrev pub MasksBelow : ℕ → ℕ → Type 0
  MasksBelow bits g =
      (z : ℕ) → z < size N s → first_id N s + z < g → is_live words (first_id N s + z) ≡ true → (k : ℕ) → is_set (bits_at N s z column) k ≡ true → is_set bits k ≡ true

  -- .. with one more of them, behind which the next live one is at h
  pub masks-more : (bits w y h : ℕ) → w ≡ bits_at N s y column → ((i : ℕ) → first_id N s + y + 1 ≤ i → i < h → is_live words i ≡ true → ⊥) → MasksBelow bits (first_id N s + y) → MasksBelow (bit_or bits w) h
  masks-more bits w y h e none so_far z hz below live k b = is_set-or bits w k ∙ go (dec_lt z y) (ℕ_discrete z y)
    where
      go : Dec (z < y) → Dec (z ≡ y) → (is_set bits k || is_set w k) ≡ true
      go (yes l) d = or_left (is_set w k) (so_far z hz (omega arith) live k b)
      go (no l) (yes q) = or_right (is_set bits k) (ap (λ (u : ℕ). is_set u k) (e ∙ ap (λ (i : ℕ). bits_at N s i column) (sym q)) ∙ b)
      go (no l) (no d) = absurd (none (first_id N s + z) (omega arith) below live)

-- ---- The tuples that pass

module _ (N : Network) (r x : ℕ) (sieve : Sieve) where
  -- all of them, where the relation has no such column
  pub passes_none : width N r ≤ sieve.column → passes_sieve N r sieve x ≡ true
  unfolding passes_sieve
  passes_none h = or_left (not (eqb (bit_and sieve.bits (bits_at N r x sieve.column)) 0)) (le-leb (width N r) sieve.column h)

  -- those that have a bit, where it has
  pub passes-bits : (w : ℕ) → w ≡ bits_at N r x sieve.column → sieve.column < width N r → passes_sieve N r sieve x ≡ not (eqb (bit_and sieve.bits w) 0)
  unfolding passes_sieve
  passes-bits w e h =
      ap (λ (b : Bool). b || not (eqb (bit_and sieve.bits (bits_at N r x sieve.column)) 0)) (lt-leb (width N r) sieve.column h)
      ∙ ap (λ (u : ℕ). not (eqb (bit_and sieve.bits u) 0)) (sym e)

-- ---- Columns that two relations share

-- tuples that agree have values there that fit
pub shared-fit : {L : Lists} → SoundLists L → (let N = network_in L in (r s : ℕ) (shared : Shared) → SharedIn N r s shared → (shared.own ≡ 8 → ⊥) → (x z : ℕ) → x < size N r → z < size N s → agree N (first_id N r + x) (first_id N s + z) ≡ true → fit (value_in N r x shared.own) (value_in N s z shared.other) ≡ true)
shared-fit {L} laid r s shared shares some x z hx hz agrees =
    let N = network_in L in
    let lx = scope-length laid r (below-limit laid r x hx) ∙ sym (values_length laid r x hx) in
    let lz = scope-length laid s (below-limit laid s z hz) ∙ sym (values_length laid s z hz) in
    let c = shares.same some in
    values-fit (scope_of N r) (values_at N r x) (scope_of N s) shared.own shared.other lx c.0 c.1 c.2 (values_at N s z) lz (sym (agree_at N r x s z hx hz) ∙ agrees)

-- the bits of a column of relation s sieve by the column of r that has the same variable
pub sieves-mask : {L : Lists} → SoundLists L → (let N = network_in L in (r s : ℕ) (words : List ℕ) (shared : Shared) (sieve : Sieve) → sieve.column ≡ shared.own → SharedIn N r s shared → ((shared.own ≡ 8 → ⊥) → Masks N s shared.other words sieve.bits) → Sieves N r s words sieve)
sieves-mask {L} laid r s words shared sieve same shares masks x z hx hz agrees live = go (dec_le (width N r) sieve.column)
  where
    N : Network
    N = network_in L

    go : Dec (width N r ≤ sieve.column) → passes_sieve N r sieve x ≡ true
    go (yes h) = passes_none N r x sieve h
    go (no h) =
        let inside : sieve.column < width N r = omega arith in
        let some : shared.own ≡ 8 → ⊥ = λ e. omega (arith, e, same, inside, columns-few laid.framed r (below-limit laid r x hx)) in
        let k = bits-meet (value_in N r x shared.own) (value_in N s z shared.other) (shared-fit laid r s shared shares some x z hx hz agrees) in
        passes-bits N r x sieve (bits_at N r x shared.own) (ap (bits_at N r x) (sym same)) inside
        ∙ ap not (ne_eqb _ 0 (and_none sieve.bits (bits_at N r x shared.own) k.0 (masks some z hz live k.0 k.2) k.1))
