-- `meet_all` finds no word of which `in_all` is true, so none of the words has such an id.
use Rattle.std.proofs.Common.{◌≡◌, ℕ, ◌+◌, ◌-◌, ◌/◌, get_or, refl, ◌∙◌, subst, rules, arith}
use Rattle.std.proofs.lemmas.Bool.{MatchBool-at_false}
use Rattle.std.proofs.lemmas.Iterator.{cases_from_any, YieldsList-from_range}
use Rattle.std.proofs.lemmas.List.FromFn.{length-range_with_len, get_or-range_with_len}
use Rattle.narrowing.specs.TupleRows.{BitsInRows}
use Rattle.narrowing.proofs.TupleRows.{apart-word}
use Rattle.narrowing.proofs.rows.meet_all.Goals as goal

pub returns : goal.returns
returns c e g low high live inside =
    let a = c.args in
    let None : ℕ → Type 0 = λ i. BitsInRows a.index.now a.n a.rows.now i (get_or a.words.now i 0) 0 in
    let by_call = cases_from_any _ _ _ (λ _. Unit {0}) None c.any.ensures.ran (YieldsList-from_range a.from a.to (a.to - a.from) refl refl) (λ x q k. tt) (λ x q k. search rules) in
    let i = g / 64 - a.from in
    let at : a.from + i ≡ g / 64 = omega arith in
    let none = MatchBool-at_false _ _ e by_call i 0 (omega arith) (omega (arith, length-range_with_len a.from (a.to - a.from))) in
    apart-word a.index.now a.rows.now (g / 64) a.n g a.words.now (subst None (get_or-range_with_len a.from (a.to - a.from) i 0 (omega arith) ∙ at) none) refl live inside
