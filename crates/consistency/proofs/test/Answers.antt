-- `test` answers as the definition of the call says: the first fault, or whether the live tuples are consistent.
use Rattle.std.proofs.Common.{ℕ, true, false, length, refl, sym, subst, ◌∙◌}
use Rattle.layout.specs.Setting.{setting, Sound}
use Rattle.consistency.proofs.Tested.{tested-refused, given-sound, needed-few, tested-reply}
use Rattle.consistency.proofs.test.Goals as goal

pub returns-then-opening-ne0 : goal.returns-then-opening-ne0
returns-then-opening-ne0 c =
    let a = c.args in
    let o = c.test_checked-opening in
    tested-refused a.shape a.variables.now a.values.now a.m a.members.now a.words.now (length a.words.now) refl o.result o.ensures c.if-opening-ne0.true

pub copied-live-requires : goal.copied-live-requires
copied-live-requires c =
    let a = c.args in
    let o = c.test_checked-opening in
    needed-few a.shape a.variables.now a.values.now a.m a.members.now a.words.now (length a.words.now) refl o.result o.ensures c.if-opening-ne0.false
    c.tuple_count.result c.words_for.result c.tuple_count.ensures c.words_for.ensures

pub all_supported-requires : goal.all_supported-requires
all_supported-requires c =
    let a = c.args in
    let o = c.test_checked-opening in
    let sound = given-sound a.shape a.variables.now a.values.now a.m a.members.now a.words.now (length a.words.now) refl o.result o.ensures c.if-opening-ne0.false in
    (c.copied-live.ensures.long, subst (λ (n : ℕ). Sound (setting (λ xs. xs) a.variables.now a.values.now o.result.starts a.members.now n)) (sym c.wide.ensures.0) sound)

pub returns-then-all_supported : goal.returns-then-all_supported
returns-then-all_supported c =
    let a = c.args in
    let o = c.test_checked-opening in
    tested-reply a.shape a.variables.now a.values.now a.m a.members.now a.words.now (length a.words.now) refl o.result o.ensures c.if-opening-ne0.false
    c.tuple_count.result c.words_for.result c.tuple_count.ensures c.words_for.ensures
    c.copied-live.result c.copied-live.ensures.same c.wide.result c.wide.ensures.0 true (sym c.if-all_supported.true ∙ c.all_supported.ensures)

pub returns : goal.returns
returns c =
    let a = c.args in
    let o = c.test_checked-opening in
    tested-reply a.shape a.variables.now a.values.now a.m a.members.now a.words.now (length a.words.now) refl o.result o.ensures c.if-opening-ne0.false
    c.tuple_count.result c.words_for.result c.tuple_count.ensures c.words_for.ensures
    c.copied-live.result c.copied-live.ensures.same c.wide.result c.wide.ensures.0 false (sym c.if-all_supported.false ∙ c.all_supported.ensures)
