-- The search begins at the first member but the seeking tuple's. From the laws of the next stage.
use Rattle.std.proofs.Common.{◌≡◌, true, ◌<◌, List, ℕ, length, sym, ◌∙◌, subst, rules}
use Rattle.support.specs.declared.Stage.{Stage}
use Rattle.support.specs.Search.{Search, past_own, place_behind}
use Rattle.support.specs.Spent.{Rooted}
use Rattle.support.proofs.Own.{NextStage, next-stage}
use Rattle.support.proofs.Ends.{prefix-none, sought-first}
use Rattle.support.proofs.Spent.{before-behind}
use Rattle.support.proofs.search_all.Goals as goal

begun : {Q : Search} {index : List ℕ} → Rooted Q index → length Q.low ≡ 4 → (s : Stage) → s ≡ past_own Q.place Q.own 0 Q.low → NextStage Q true 0 Q.low s
begun {Q = Q} R sized s e = next-stage Q R.seeking.sound true 0 Q.low sized sized R.lives (prefix-none Q Q.low) s e

pub search-requires-clause-long : goal.search-requires-clause-long
search-requires-clause-long c =
    let a = c.args in
    let R = c.requires.long.1 in
    let s = c.past_own-begun.result in
    let S = begun R (search rules) s c.past_own-begun.ensures in
    let further : place_behind a.place s.k < length a.members.now =
    subst (λ (s : Stage). place_behind a.place s.k < length a.members.now) (sym c.past_own-begun.ensures) R.further
    in
    (c.requires.long.0, record { seeking = R.seeking; prefix = S.prefix; lives = R.lives; inside = before-behind a.place s.k (length a.members.now) further; other = S.other })

pub returns-clause-finds_first : goal.returns-clause-finds_first
returns-clause-finds_first c =
    let S = begun c.requires.long.1 (search rules) c.past_own-begun.result c.past_own-begun.ensures in
    c.search.ensures.finds ∙ S.same ∙ sought-first _ c.args.low
