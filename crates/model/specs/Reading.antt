-- The desk's text read: what stands at the front of a text, and the text behind it.
use Rattle.std.specs.Prelude.{Bool, ◌&&◌, cond, List, [], ◌∷◌, ◌++◌, ℕ, zero, suc, ◌+◌, ◌*◌, ◌-◌, leb, ltb, eqb, length, get_or}
use Rattle.std.proofs.Math.Option.{Option, none, some}
use Rattle.model.specs.declared.Relation.{Relation}
use Rattle.model.specs.Limits.{max_relations, max_width, max_tuples, min_members, max_members, max_combinations}
use Rattle.model.specs.Network.{Network}
use Rattle.model.specs.Request.{Instance}
use Rattle.model.specs.Fault.{within}
use Rattle.model.specs.Text.{max_field, max_code, max_text, newline, comma, nought}

-- What was read, and the text behind it; none where the text is not in the form.
abbrev pub Read : Type 0 → Type 0
Read A = Option (A × List ℕ)

-- what is read next, given what was read so far
abbrev pub and_then : {A B : Type 0} → Read A → (A → List ℕ → Read B) → Read B
and_then none next = none
and_then (some r) next = next r.0 r.1

abbrev pub is_digit : ℕ → Bool
is_digit b = within nought (nought + 9) b

-- a field of at most `top` read as far as the number v, to be ended by the byte `end`: a nought is followed by no digit
abbrev pub read_digits : ℕ → ℕ → ℕ → List ℕ → Read ℕ
read_digits top end v [] = none
read_digits top end v (b ∷ bs) =
    cond (eqb b end) (some (v, bs))
    (cond (is_digit b && (ltb 0 v && leb (10 * v + (b - nought)) top)) (read_digits top end (10 * v + (b - nought)) bs) none)

-- a field that is ended by the byte `end`
unfoldable pub read_field : ℕ → ℕ → List ℕ → Read ℕ
read_field top end [] = none
read_field top end (b ∷ bs) = cond (is_digit b) (read_digits top end (b - nought) bs) none

-- a line of n fields, each at most `top`
abbrev pub read_line : ℕ → ℕ → List ℕ → Read (List ℕ)
read_line top zero t = none
read_line top (suc zero) t = and_then (read_field top newline t) (λ v. λ rest. some (v ∷ [], rest))
read_line top (suc (suc n)) t =
    and_then (read_field top comma t) (λ v. λ rest.
    and_then (read_line top (suc n) rest) (λ vs. λ rest'. some (v ∷ vs, rest')))

-- k lines of n fields each, the fields end to end
abbrev pub read_lines : ℕ → ℕ → ℕ → List ℕ → Read (List ℕ)
read_lines top zero n t = some ([], t)
read_lines top (suc k) n t =
    and_then (read_line top n t) (λ vs. λ rest.
    and_then (read_lines top k n rest) (λ us. λ rest'. some (vs ++ us, rest')))

-- a relation with its scope and its tuples' values, before others
abbrev pub joined : Relation → List ℕ → List ℕ → Network → Network
joined R scope values N =
    record { relations = R ∷ N.relations; variables = scope ++ N.variables; values = values ++ N.values }

-- k relations that have at most `room` tuples in all
abbrev pub read_relations : ℕ → ℕ → List ℕ → Read Network
read_relations zero room t = some (record { relations = []; variables = []; values = [] }, t)
read_relations (suc k) room t =
    and_then (read_line max_field 2 t) (λ head. λ rest.
    let width = get_or head 0 0 in
    let tuples = get_or head 1 0 in
    cond (within 1 max_width width && leb tuples room)
    (and_then (read_line max_field width rest) (λ scope. λ rest'.
    and_then (read_lines max_code tuples width rest') (λ values. λ rest''.
    and_then (read_relations k (room - tuples) rest'') (λ N. λ rest'''.
    some (joined (record { width = width; tuples = tuples }) scope values N, rest''')))))
    none)

-- a network with its combinations
unfoldable pub read_instance : List ℕ → Read Instance
read_instance t =
    and_then (read_line max_field 3 t) (λ head. λ rest.
    let relations = get_or head 0 0 in
    let m = get_or head 1 0 in
    let combinations = get_or head 2 0 in
    cond (within 1 max_relations relations && (within min_members max_members m && leb combinations max_combinations))
    (and_then (read_relations relations max_tuples rest) (λ N. λ rest'.
    and_then (read_lines max_field combinations m rest') (λ members. λ rest''.
    some (record { network = N; m = m; members = members }, rest''))))
    none)

-- what was read, if nothing stands behind it
abbrev pub whole : {A : Type 0} → Read A → Option A
whole none = none
whole (some (x, [])) = some x
whole (some (x, b ∷ bs)) = none

-- The instance whose text this is; none where it is no instance's text.
unfoldable pub read : List ℕ → Option Instance
read t = cond (leb (length t) max_text) (whole (read_instance t)) none
