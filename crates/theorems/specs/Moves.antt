-- What is promised of the moves (card 9), from nothing but their contracts.
--
--   moves::widen, narrow                KeepsMove       move-promise, widen-back, narrow-forth
--   wakhvosi_widen, narrow (bytes)      KeepsMoveBytes  move-promise-bytes
--
-- That the moved network means what the old one meant is `same-meaning` here: agreement, the variable a comparison names, what a change
-- removes, and so every reply. The definitions and their promises are the model's specs/Moves.antt; on bytes byte_moves' specs/Moves.antt.
use Rattle.std.specs.Prelude.{◌≡◌, refl, Bool, true, false, ℕ, ◌*◌, ◌/◌, ◌≤◌, length, take, drop, get_or}
use Rattle.std.proofs.Common.{sym, ◌∙◌, ap₂, subst, le-leb}
use Rattle.std.proofs.Math.Path.{ap}
use Rattle.std.proofs.Math.Bool.{cond}
use Rattle.std.proofs.Math.Option.{Option, none, some}
use mathlib.Core.List.{List, [], ◌∷◌, ◌++◌, map}
use Rattle.std.proofs.lemmas.Bool.{eqb-false}
use Rattle.model.specs.declared.Moved.{Moved}
use Rattle.model.specs.declared.Moved.TheVariants.{Done}
use Rattle.model.specs.Limits.{any_value}
use Rattle.model.specs.Network
use Rattle.model.specs.Network.{Network}
use Rattle.model.specs.Agreement
use Rattle.model.specs.Fault.{first_fault}
use Rattle.model.specs.Promises.{NoFault, FirstFault}
use Rattle.model.specs.Examples.{relation}
use Rattle.model.specs.Moves
use Rattle.model.specs.Moves.{old_any, Move, widen, narrow, moved, move_faults, MoveReply, moved_numbers, move_reply, KeepsMove, MoveAnswered, with_values, moved_network, values_to, SameMeaning}
use Rattle.model.proofs.Fault.{none-first_fault, first_fault-some}
use Rattle.model.proofs.Moves.{move-answered, widen-returns, narrow_returns, same-meaning}
use Rattle.wire.specs.Entries.{bytes}
use Rattle.encoding.specs.Packed.{packed_pair}
use Rattle.byte_moves.specs.Moves.{given, move_network, MoveOutcome, moved_bytes, whole_moved, whole_move, byte_move, KeepsMoveBytes}

-- ---- On lists

abbrev pub replied : Moved → List ℕ → MoveReply
replied a after = record { answer = moved_numbers a; target = after }

module _ (d : Move) (N : Network) (before : List ℕ) (a : Moved) (after : List ℕ) (kept : KeepsMove d N before a after) where
  -- done where there is no fault, with the values in front and every later entry as lent; else refused for the first fault, and every
  -- entry as lent
  pub move-promise : MoveAnswered d N before (replied a after)
  move-promise = subst (MoveAnswered d N before) (sym kept) (move-answered d N before)

-- the network that a call leaves in the second list
abbrev pub standing : Network → List ℕ → Network
standing N after = with_values N (take (length N.values) after)

module _ (N : Network) (before after other last : List ℕ) (a b : Moved) (enough : length N.values ≤ length other) (done : moved_numbers a ≡ (0, 0)) where
  -- An old network that was moved, and is then moved back: that move is done too, and the network is the same.
  pub widen-back : values_to old_any N ≡ true → KeepsMove widen N before a after → KeepsMove narrow (standing N after) other b last → (moved_numbers b ≡ (0, 0)) × (standing N last ≡ N)
  widen-back small there back =
      let answer = sym (ap (λ (p : MoveReply). p.answer) there) ∙ done in
      let r = widen-returns N before small answer other (le-leb (length N.values) (length other) enough) in
      let is : replied b last ≡ move_reply narrow (moved_network N (move_reply widen N before)) other = back ∙ ap (λ (p : MoveReply). move_reply narrow (moved_network N p) other) there in
      (ap (λ (p : MoveReply). p.answer) is ∙ r.0, ap (moved_network N) is ∙ r.1)

  -- .. and a new one that was moved back, and is then moved forth again.
  pub narrow-forth : values_to any_value N ≡ true → KeepsMove narrow N before a after → KeepsMove widen (standing N after) other b last → (moved_numbers b ≡ (0, 0)) × (standing N last ≡ N)
  narrow-forth small there back =
      let answer = sym (ap (λ (p : MoveReply). p.answer) there) ∙ done in
      let r = narrow_returns N before small answer other (le-leb (length N.values) (length other) enough) in
      let is : replied b last ≡ move_reply widen (moved_network N (move_reply narrow N before)) other = back ∙ ap (λ (p : MoveReply). move_reply widen (moved_network N p) other) there in
      (ap (λ (p : MoveReply). p.answer) is ∙ r.0, ap (moved_network N) is ∙ r.1)

-- The moved network means what the old one meant, with 65,535 for any.
pub means-the-same : (N : Network) → values_to old_any N ≡ true → SameMeaning N
means-the-same = same-meaning

-- ---- On bytes

-- A move from C answers n and leaves `after` of the second list's bytes: with number 1 where a list is not whole; with the first fault;
-- or done, with exactly the bytes of the values moved written.
pub record ByteMoved (d : Move) (sheets questions codes before : List ℕ) (n : ℕ) (after : List ℕ) : Type 0 where
  pub not-whole : whole_move d sheets questions codes before ≡ false → (n ≡ packed_pair (2, 1)) × (after ≡ before)
  pub first : whole_move d sheets questions codes before ≡ true → (f : ℕ) → FirstFault f (move_faults d (move_network d sheets questions codes) (length before / given d)) → (n ≡ packed_pair (2, f)) × (after ≡ before)
  pub done : whole_move d sheets questions codes before ≡ true → NoFault (move_faults d (move_network d sheets questions codes) (length before / given d)) → (n ≡ 0) × (after ≡ bytes (given d) (map (moved d) (move_network d sheets questions codes).values) ++ drop (given d * length (map (moved d) (move_network d sheets questions codes).values)) before)

module _ (d : Move) (sheets questions codes before : List ℕ) (n : ℕ) (after : List ℕ) (kept : KeepsMoveBytes d sheets questions codes before n after) where
  abbrev N : Network
  N = move_network d sheets questions codes

  abbrev vs : List ℕ
  vs = map (moved d) N.values

  parts : (p : MoveOutcome) → record { answer = n; target = after } ≡ p → (n ≡ p.answer) × (after ≡ p.target)
  parts p e = (ap (λ (o : MoveOutcome). o.answer) e, ap (λ (o : MoveOutcome). o.target) e)

  whole-case : whole_move d sheets questions codes before ≡ true → (o : Option ℕ) → first_fault (move_faults d N (length before / given d)) ≡ o → record { answer = n; target = after } ≡ moved_bytes d o vs before
  unfolding byte_move whole_moved
  whole-case w o e =
      kept
      ∙ ap (λ (b : Bool). cond b (whole_moved d sheets questions codes before) (moved_bytes d (some 1) [] before)) w
      ∙ ap (λ (p : Option ℕ). moved_bytes d p vs before) e

  cut-case : whole_move d sheets questions codes before ≡ false → record { answer = n; target = after } ≡ moved_bytes d (some 1) [] before
  unfolding byte_move
  cut-case w = kept ∙ ap (λ (b : Bool). cond b (whole_moved d sheets questions codes before) (moved_bytes d (some 1) [] before)) w

  pub move-promise-bytes : ByteMoved d sheets questions codes before n after
  move-promise-bytes =
      record {
        not-whole = λ w. parts _ (cut-case w);
        first = λ w f e. parts _ (whole-case w (some f) (ap first_fault e.2 ∙ first_fault-some e.0 e.1 f e.3));
        done = λ w e. parts _ (whole-case w none (none-first_fault (move_faults d N (length before / given d)) e));
      }

-- ---- What the contracts rule out: of each move, two wrong programs that would break its contract on an example

-- one relation of one variable, with the values 65,535 and v
two : ℕ → Network
two v = record { relations = relation 1 2 ∷ []; variables = 0 ∷ []; values = 65535 ∷ v ∷ [] }

-- what the definitions give
right : ((move_reply widen (two 7) (1 ∷ 2 ∷ 3 ∷ [])).target ≡ 4294967295 ∷ 7 ∷ 3 ∷ []) × ((move_reply narrow (two 7) []).answer ≡ (2, 23)) × ((move_reply narrow (with_values (two 7) (4294967295 ∷ 7 ∷ [])) (1 ∷ 2 ∷ [])).target ≡ 65535 ∷ 7 ∷ [])
unfolding two relation Network.scope_of Agreement.is_any Moves.widened Moves.narrowed Moves.move_reply
right = (refl, refl, refl)

-- a widen that keeps 65,535
widen-keeps-any : (a : Moved) (rest : List ℕ) → KeepsMove widen (two 7) (1 ∷ 2 ∷ 3 ∷ []) a (65535 ∷ rest) → ⊥
widen-keeps-any a rest kept = eqb-false 65535 4294967295 refl (ap (λ (p : MoveReply). get_or p.target 0 0) kept ∙ ap (λ (xs : List ℕ). get_or xs 0 0) right.0)

-- .. that writes past the values
widen-writes-past : (a : Moved) (x y : ℕ) → KeepsMove widen (two 7) (1 ∷ 2 ∷ 3 ∷ []) a (x ∷ y ∷ 0 ∷ []) → ⊥
widen-writes-past a x y kept = eqb-false 0 3 refl (ap (λ (p : MoveReply). get_or p.target 2 0) kept ∙ ap (λ (xs : List ℕ). get_or xs 2 0) right.0)

-- a narrow that looks at the list's length before it looks at the values
narrow-short-first : (after : List ℕ) → ◌≡◌ {A = MoveReply} (record { answer = (2, 24); target = after }) (move_reply narrow (two 7) []) → ⊥
narrow-short-first after kept = eqb-false 24 23 refl (ap (λ (p : MoveReply). p.answer.1) kept ∙ ap (λ (n : ℕ × ℕ). n.1) right.1)

-- .. that keeps the low half of any
narrow-low-half : (a : Moved) (rest : List ℕ) → KeepsMove narrow (with_values (two 7) (4294967295 ∷ 7 ∷ [])) (1 ∷ 2 ∷ []) a (0 ∷ rest) → ⊥
narrow-low-half a rest kept = eqb-false 0 65535 refl (ap (λ (p : MoveReply). get_or p.target 0 0) kept ∙ ap (λ (xs : List ℕ). get_or xs 0 0) right.2)
