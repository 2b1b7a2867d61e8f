-- `has_support` searches from the lowest indices that a candidate with the tuple can have: one is found exactly if there is one, by the law
-- of a search that begins where no support is earlier.
use Rattle.std.proofs.Common.{◌≡◌, ℕ, true, false, List, map, take, length, get_or, ltb, refl, ap, ◌∙◌}
use mathlib.Core.List.{Memᴰ}
use Rattle.model.specs.Lists.{all, pairwise, earlier}
use Rattle.model.specs.Network.{index_of}
use Rattle.model.specs.Support.{candidates, is_support}
use Rattle.model.proofs.Bools.{and_right}
use Rattle.model.proofs.Search.{start-lowest, support_from-any}
use Rattle.support.specs.Search.{Search, searching, net_of, live_of, seeker, is_found, SoundSearch}
use Rattle.consistency.specs.Consistent.{lowest}
use Rattle.consistency.proofs.Pairs.{lowest-other}
use Rattle.consistency.proofs.has_support.Goals as goal

-- no support is earlier than where the search begins
none-earlier : (Q : Search) → SoundSearch Q → Q.low ≡ lowest Q.place Q.own → (u : List ℕ) → Memᴰ u (candidates (net_of Q) Q.members) → is_support (net_of Q) (live_of Q) (seeker Q) u ≡ true → earlier (map (index_of (net_of Q)) u) Q.low ≡ false
none-earlier Q sound e =
    let N = net_of Q in
    start-lowest N (live_of Q) (seeker Q) Q.low Q.members Q.place Q.own
    (and_right (all (λ r. ltb r (length N.relations)) Q.members) (pairwise ltb Q.members) sound.members)
    sound.place sound.own refl sound.low-own (λ j d. ap (λ (low : List ℕ). get_or low j 0) e ∙ lowest-other Q.place Q.own j d)

pub first_support-found-requires-clause-long_2 : goal.first_support-found-requires-clause-long_2
first_support-found-requires-clause-long_2 c =
    let a = c.args in
    let Q : Search = searching (λ x. x.now) a.variables a.values a.starts a.words a.members a.place a.own (lowest a.place a.own) in
    (c.requires.long_2.0, record { meets = c.requires.long_2.1; lowest = none-earlier Q c.requires.long.1.sound refl })

pub returns-clause-result_value : goal.returns-clause-result_value
returns-clause-result_value c =
    let a = c.args in
    let Q : Search = searching (λ x. x.now) a.variables a.values a.starts a.words a.members a.place a.own (lowest a.place a.own) in
    let found = c.first_support-found.result in
    support_from-any (net_of Q) (live_of Q) (seeker Q) Q.low Q.members (none-earlier Q c.requires.long.1.sound refl) (is_found found.kind) (take (length Q.members) found.tuples) c.first_support-found.ensures.finds_first
