-- A support that is held and lives is the first one. From the laws of the numbers held.
use Rattle.std.proofs.Common.{Bool, List, ℕ, ◌+◌, ◌-◌, ◌*◌, ◌/◌, ◌≤◌, ◌++◌, length, get_or, take, drop, replicate, sym, ◌∙◌, ap, ap₂, arith, rules}
use Rattle.model.specs.Limits.{max_members}
use Rattle.worklist.specs.Supports.{all_live}
use Rattle.engine.proofs.Bounds.{held-inside, chosen, renewed-held}
use Rattle.engine.proofs.visit.renew.Goals as goal

pub offset_bounds-numbers-at : goal.offset_bounds-numbers-at
offset_bounds-numbers-at c =
    let S = c.requires.renew_at.seek in
    let i : c.args.at + c.args.m ≤ length c.args.numbers.now = omega (arith, S.place, held-inside S.seeker) in
    search rules

pub bounds-numbers-at : goal.bounds-numbers-at
bounds-numbers-at c = let S = c.requires.renew_at.seek in omega (arith, S.place, held-inside S.seeker, S.seeker.sound.paired.list.positive)

pub load-held-requires : goal.load-held-requires
load-held-requires c =
    let S = c.requires.renew_at.seek in
    let each = c.wide-each.ensures.0 in
    (omega (arith, each, S.place, held-inside S.seeker), omega (arith, each, S.seeker.sound.paired.list.few))

pub all_live-requires : goal.all_live-requires
all_live-requires c =
    let a = c.args in
    let S = c.requires.renew_at.seek in
    let each = c.wide-each.ensures.0 in
    let base = ap₂ (λ (q n : ℕ). q / n * n) c.wide.ensures.0 each in
    let held = c.load-held.ensures ∙ ap₂ (λ (n at : ℕ). take n (drop at a.numbers.now) ++ replicate (max_members - n) 0) each S.place in
    rw (base, each, held) (chosen S.seeker (λ e. c.if-numbers-at.true (ap (λ (i : ℕ). get_or a.numbers.now i 0) S.place ∙ e)))

pub returns-then-all_live-clause-renewed : goal.returns-then-all_live-clause-renewed
returns-then-all_live-clause-renewed c =
    let a = c.args in
    let S = c.requires.renew_at.seek in
    let each = c.wide-each.ensures.0 in
    let base = ap₂ (λ (q n : ℕ). q / n * n) c.wide.ensures.0 each in
    let held = c.load-held.ensures ∙ ap₂ (λ (n at : ℕ). take n (drop at a.numbers.now) ++ replicate (max_members - n) 0) each S.place in
    let live : ℕ → ℕ → List ℕ → Bool = λ b n is. all_live a.words.now a.starts.now a.members.now b n is in
    renewed-held S.seeker
    (λ e. c.if-numbers-at.true (ap (λ (i : ℕ). get_or a.numbers.now i 0) S.place ∙ e))
    (sym (c.all_live.ensures ∙ ap₂ (λ (b n : ℕ). live b n c.load-held.result) base each ∙ ap (live (a.p / a.m * a.m) a.m) held) ∙ c.if-all_live.true)
