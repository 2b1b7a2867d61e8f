-- Laws of a network's lists: where its scopes and tuples lie, how long they are, and where each value stands.
-- From the laws of sound starts, and what a network without network faults has.
use mathlib.Core.Path.{◌≡◌, sym, ◌∙◌, ap, ap₂}
use mathlib.Core.List.{List}
use Prim.Native.Nat.{ℕ, suc, ◌+◌, ◌-◌, ◌*◌, ◌≤◌, ◌<◌}
use native.Mathlib.Nat.{mul-le-mul_left, mul_comm, mul-suc}
use native.Mathlib.Omega.{arith}
use lib.ListN.{length, get_or, take, drop, length-drop}
use lib.Seq.{length-take-le, get_or-take, get_or-drop}
use Rattle.model.specs.Limits.{max_relations, max_width}
use Rattle.model.specs.Network.{Network, width, size, variables_in, values_in, before, scope_of, values_at}
use Rattle.model.specs.Agreement.{cells}
use Rattle.model.proofs.Network.{size_below, before-le, before-within}
use Rattle.model.proofs.Fault.{Faultless, faultless}
use Rattle.layout.specs.declared.Place.{Place}
use Rattle.layout.specs.Starts.{variable_start, tuple_start, value_start, records_in}
use Rattle.layout.specs.Places.{width_in, place_at}
use Rattle.layout.specs.Setting.{Lists, network_in, SoundLists}
use Rattle.layout.proofs.SoundStarts.{relations-few, variable-start, value-start, value-end, width-in, size_in, scope-rises, columns-few}

pub length_part : (from to : ℕ) (l : List ℕ) → from ≤ to → to ≤ length l → length (take (to - from) (drop from l)) ≡ to - from
length_part from to l h k =
    let e : length (drop from l) ≡ length l - from = length-drop from l in
    length-take-le (to - from) (drop from l) (omega arith)

module _ {L : Lists} (laid : SoundLists L) where
  abbrev N : Network
  N = network_in L

  abbrev xs : List ℕ
  xs = L.starts

  pub sound : Faultless N
  sound = faultless N laid.faultless

  -- ---- The scope at every number below 64

  module _ (r : ℕ) (h : r < max_relations) where
    pub scope-within : variable_start xs (r + 1) ≤ length L.variables
    scope-within =
        omega (arith, variable-start laid.framed (r + 1) (omega arith), before-le variables_in (records_in xs) (r + 1), sound.variables)

    pub scope-is : take (variable_start xs (r + 1) - variable_start xs r) (drop (variable_start xs r) L.variables) ≡ scope_of N r
    unfolding scope_of
    scope-is =
        ap₂ (λ (n m : ℕ). take n (drop m L.variables)) (width-in laid.framed r h) (variable-start laid.framed r (omega arith))

    pub scope-length : length (scope_of N r) ≡ width N r
    scope-length =
        sym (ap length scope-is)
        ∙ length_part (variable_start xs r) (variable_start xs (r + 1)) L.variables (scope-rises laid.framed r h) scope-within
        ∙ width-in laid.framed r h

    pub scope-few : length (scope_of N r) ≤ max_width
    scope-few = omega (arith, scope-length, columns-few laid.framed r h)

    -- all values of the relation lie in the list
    pub values-within : value_start xs r + (tuple_start xs (r + 1) - tuple_start xs r) * width N r ≤ length L.values
    values-within =
        let n = size_in laid.framed r h in
        rw n (omega (
          arith,
          value-start laid.framed r (omega arith),
          value-end laid.framed r h,
          value-start laid.framed (r + 1) (omega arith),
          before-le values_in (records_in xs) (r + 1),
          mul_comm (size N r) (width N r),
          sound.values,
        ))

    -- by the relation's place
    module _ (p : Place) (x : ℕ) (e : p ≡ place_at xs r x) where
      pub place-rises : p.scope ≤ p.scope_end
      place-rises = rw e (scope-rises laid.framed r h)

      pub place_inside : p.scope_end ≤ length L.variables
      place_inside = rw e scope-within

      pub place-scope : take (p.scope_end - p.scope) (drop p.scope L.variables) ≡ scope_of N r
      place-scope = ap (λ (q : Place). take (q.scope_end - q.scope) (drop q.scope L.variables)) e ∙ scope-is

      pub place-few : length (take (p.scope_end - p.scope) (drop p.scope L.variables)) ≤ max_width
      place-few = omega (arith, ap length place-scope, scope-few)

  -- ---- A relation with tuple x

  module _ (r x : ℕ) (h : x < size N r) where
    pub exists : r < length (records_in xs)
    exists = size_below N r x h

    pub below-limit : r < max_relations
    below-limit = omega (arith, exists, relations-few laid.framed)

    tuple-start : value_start xs r + x * width_in xs r ≡ before values_in (records_in xs) r + x * width N r
    tuple-start =
        ap₂ (λ (a w : ℕ). a + x * w) (value-start laid.framed r (omega (arith, below-limit))) (width-in laid.framed r below-limit)

    pub tuple-fits : before values_in (records_in xs) r + x * width N r + width N r ≤ length L.values
    tuple-fits =
        let l = before-within values_in (records_in xs) r exists in
        let m : width N r * suc x ≤ width N r * size N r = mul-le-mul_left (width N r) h in
        let e = mul-suc (width N r) x in
        let f = mul_comm (width N r) x in
        omega (arith, sound.values)

    tuple_is : take (value_start xs r + x * width_in xs r + width_in xs r - (value_start xs r + x * width_in xs r)) (drop (value_start xs r + x * width_in xs r) L.values) ≡ values_at N r x
    unfolding values_at
    tuple_is =
        let w : value_start xs r + x * width_in xs r + width_in xs r - (value_start xs r + x * width_in xs r) ≡ width N r = omega (arith, width-in laid.framed r below-limit) in
        ap₂ (λ (n m : ℕ). take n (drop m L.values)) w tuple-start

    pub values_length : length (values_at N r x) ≡ width N r
    unfolding values_at
    values_length =
        let at = before values_in (records_in xs) r + x * width N r in
        let w : at + width N r - at ≡ width N r = omega arith in
        ap (λ (n : ℕ). length (take n (drop at L.values))) (sym w) ∙ length_part at (at + width N r) L.values (omega arith) tuple-fits ∙ w

    -- the value in column c of tuple x
    pub value-at : (c : ℕ) → c < width N r → get_or (values_at N r x) c 0 ≡ get_or L.values (value_start xs r + x * width N r + c) 0
    unfolding values_at
    value-at c l =
        get_or-take (width N r) (drop (before values_in (records_in xs) r + x * width N r) L.values) c 0 l
        ∙ get_or-drop (before values_in (records_in xs) r + x * width N r) L.values c 0
        ∙ ap (λ (a : ℕ). get_or L.values (a + x * width N r + c) 0) (sym (value-start laid.framed r (omega (arith, below-limit))))

    -- ---- Its place

    -- it lies within the lists, and has as many variables as values
    pub record Within (p : Place) : Type 0 where
      pub scope : p.scope ≤ p.scope_end
      pub variables : p.scope_end ≤ length L.variables
      pub tuple : p.tuple ≤ p.tuple_end
      pub values : p.tuple_end ≤ length L.values
      pub widths : p.scope_end - p.scope ≡ p.tuple_end - p.tuple

    pub place-within : (p : Place) → p ≡ place_at xs r x → Within p
    place-within p e =
        let a = scope-rises laid.framed r below-limit in
        let b = scope-within r below-limit in
        let s = tuple-start in
        let w = width-in laid.framed r below-limit in
        let f = tuple-fits in
        rw e (record { scope = a; variables = b; tuple = omega arith; values = omega arith; widths = omega arith })

    pub place-lengths : (p : Place) → p ≡ place_at xs r x → length (take (p.scope_end - p.scope) (drop p.scope L.variables)) ≡ length (take (p.tuple_end - p.tuple) (drop p.tuple L.values))
    place-lengths p e =
        let w = place-within p e in
        length_part p.scope p.scope_end L.variables w.scope w.variables
        ∙ w.widths
        ∙ sym (length_part p.tuple p.tuple_end L.values w.tuple w.values)

    pub place-cells : (p : Place) → p ≡ place_at xs r x → cells (take (p.scope_end - p.scope) (drop p.scope L.variables)) (take (p.tuple_end - p.tuple) (drop p.tuple L.values)) ≡ cells (scope_of N r) (values_at N r x)
    place-cells p e = rw e (ap₂ cells (scope-is r below-limit) tuple_is)
