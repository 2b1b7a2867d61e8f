-- Document 01's examples P1 to P9 and those of the cards 4 and 7, as one statement over their table; and examples of other calls.
use Rattle.std.specs.Prelude.{◌≡◌, refl, Bool, true, false, List, [], ◌∷◌, ◌++◌, map, ℕ, length, get_or, replicate, take, drop, set}
use Rattle.std.proofs.Math.Option.{Option, none, some}
use Rattle.model.specs.declared.Relation.{Relation}
use Rattle.model.specs.Limits.{any_value}
use Rattle.model.specs.Lists.{from, all, each}
use Rattle.model.specs.TupleSet
use Rattle.model.specs.Network
use Rattle.model.specs.Network.{Network}
use Rattle.model.specs.Agreement
use Rattle.model.specs.LiveCounts
use Rattle.model.specs.LiveCounts.{live_counts}
use Rattle.model.specs.Combination
use Rattle.model.specs.Support
use Rattle.model.specs.Consistency
use Rattle.model.specs.LiveWords
use Rattle.model.specs.Request
use Rattle.model.specs.Request.{Instance, combinations_of, Request, Change, filter, withdraw, choose, choose_several}
use Rattle.model.specs.Fault
use Rattle.model.specs.Reply
use Rattle.model.specs.Reply.{Numbers, reply, compare_reply}
use Rattle.model.specs.declared.Enumeration.TheVariants.{Listed, Refused}
use Rattle.model.specs.Enumeration
use Rattle.model.specs.Enumeration.{enumerated, enumeration_reply}
use Rattle.model.specs.Moves
use Rattle.model.specs.Moves.{Move, widen, narrow, move_to, move_reply}
use Rattle.model.specs.Tighter
use Rattle.model.specs.Tighter.{all_inside}
use Rattle.model.specs.Text
use Rattle.model.specs.Text.{text_of}
use Rattle.model.specs.Reading
use Rattle.model.specs.Reading.{read}
use Rattle.model.specs.Listing
use Rattle.model.specs.Listing.{listing, combination_listing}

unfoldable pub relation : ℕ → ℕ → Relation
relation w n = record { width = w; tuples = n }

-- book A
unfoldable pub network_a : Network
network_a =
    record {
      relations = relation 2 3 ∷ relation 2 2 ∷ relation 2 2 ∷ [];
      variables = 0 ∷ 1 ∷ 1 ∷ 2 ∷ 2 ∷ 0 ∷ [];
      values = 1 ∷ 1 ∷ 1 ∷ 2 ∷ 2 ∷ 2 ∷ 1 ∷ 5 ∷ 2 ∷ 6 ∷ 5 ∷ 1 ∷ 6 ∷ 1 ∷ [];
    }

-- the book of P6 and P7
unfoldable pub triangle : Network
triangle =
    record {
      relations = relation 2 2 ∷ relation 2 2 ∷ relation 2 2 ∷ [];
      variables = 0 ∷ 1 ∷ 1 ∷ 2 ∷ 2 ∷ 0 ∷ [];
      values = 0 ∷ 1 ∷ 1 ∷ 0 ∷ 0 ∷ 1 ∷ 1 ∷ 0 ∷ 0 ∷ 1 ∷ 1 ∷ 0 ∷ [];
    }

-- the book of P8
unfoldable pub lone : Network
lone = record { relations = relation 1 1 ∷ relation 1 0 ∷ []; variables = 0 ∷ 0 ∷ []; values = 4 ∷ [] }

-- the book of A1 and A2: its second tuple agrees with the first and with the third, and those two do not agree
unfoldable pub chain : Network
chain =
    record { relations = relation 1 1 ∷ relation 1 1 ∷ relation 1 1 ∷ []; variables = 0 ∷ 0 ∷ 0 ∷ []; values = 1 ∷ any_value ∷ 2 ∷ [] }

-- the book of A3 and A4: any under variable 0, and under variable 2
unfoldable pub vague : Network
vague =
    record {
      relations = relation 2 2 ∷ relation 2 2 ∷ [];
      variables = 0 ∷ 1 ∷ 1 ∷ 2 ∷ [];
      values = any_value ∷ 1 ∷ 3 ∷ 2 ∷ 1 ∷ 5 ∷ 2 ∷ any_value ∷ [];
    }

unfoldable pub pairs : List ℕ
pairs = 0 ∷ 1 ∷ 0 ∷ 2 ∷ 1 ∷ 2 ∷ []

-- a request with true counts and room for 40 support numbers, each of them 7 at entry
unfoldable pub asked : Network → ℕ → List ℕ → List ℕ → Change → Request
asked N m members words change =
    record {
      given = record { network = N; m = m; members = members };
      words = words;
      supports = replicate 40 7;
      counts = live_counts N (LiveWords.living (Network.total N) words);
      change = change;
    }

-- the next request on the lists that q leaves
unfoldable pub next : Request → Change → Request
next q change =
    record { given = q.given; words = (reply q).words; supports = (reply q).supports; counts = (reply q).counts; change = change }

-- A request, the numbers of its answer, the words and the counts that it leaves, and what the support list holds from a place on.
pub record Example : Type 0 where
  pub request : Request
  pub answer : Numbers
  pub words : List ℕ
  pub counts : List ℕ
  pub place : ℕ
  pub supports : List ℕ

unfoldable pub numbers : ℕ → ℕ → ℕ → ℕ → ℕ → Numbers
numbers kind subject left withdrawn deleted =
    record { kind = kind; subject = subject; left = left; withdrawn = withdrawn; deleted = deleted }

unfoldable pub p1 : Request
p1 = asked network_a 2 pairs (127 ∷ []) filter

unfoldable pub p3 : Request
p3 = next p1 (withdraw (5 ∷ []))

unfoldable pub p6 : Request
p6 = asked triangle 2 pairs (63 ∷ []) filter

unfoldable pub p7 : Request
p7 = asked triangle 3 (0 ∷ 1 ∷ 2 ∷ []) (63 ∷ []) filter

unfoldable pub a1 : Request
a1 = asked chain 2 (0 ∷ 1 ∷ 1 ∷ 2 ∷ []) (7 ∷ []) filter

unfoldable pub a2 : Request
a2 = asked chain 3 (0 ∷ 1 ∷ 2 ∷ []) (7 ∷ []) filter

unfoldable pub table : List Example
table =
    -- P1: tuple 2 of relation 0 falls, no other
    record { request = p1; answer = numbers 0 64 6 0 1; words = 123 ∷ []; counts = 2 ∷ 2 ∷ 2 ∷ []; place = 0; supports = [] }
    -- P2: the first combination's support of relation 1, tuple 1
    ∷ record { request = p1; answer = numbers 0 64 6 0 1; words = 123 ∷ []; counts = 2 ∷ 2 ∷ 2 ∷ []; place = 8; supports = 1 ∷ 1 ∷ [] }
    -- P3: ids 0 and 3 fall
    ∷ record { request = p3; answer = numbers 0 64 3 1 2; words = 82 ∷ []; counts = 1 ∷ 1 ∷ 1 ∷ []; place = 0; supports = 65535 ∷ 65535 ∷ 1 ∷ 1 ∷ 65535 ∷ 65535 ∷ [] }
    -- P4, and the numbers past the needed 28 are untouched
    ∷ record { request = next p3 (withdraw (6 ∷ [])); answer = numbers 1 0 0 1 2; words = 0 ∷ []; counts = 0 ∷ 0 ∷ 0 ∷ []; place = 26; supports = 65535 ∷ 65535 ∷ 7 ∷ [] }
    -- P5: P3's words
    ∷ record { request = asked network_a 2 pairs (127 ∷ []) (withdraw (5 ∷ [])); answer = numbers 0 64 3 1 3; words = 82 ∷ []; counts = 1 ∷ 1 ∷ 1 ∷ []; place = 0; supports = [] }
    -- P6
    ∷ record { request = p6; answer = numbers 0 64 6 0 0; words = 63 ∷ []; counts = 2 ∷ 2 ∷ 2 ∷ []; place = 0; supports = 0 ∷ 1 ∷ [] }
    -- P7
    ∷ record { request = p7; answer = numbers 1 0 0 0 6; words = 0 ∷ []; counts = 0 ∷ 0 ∷ 0 ∷ []; place = 0; supports = 65535 ∷ [] }
    -- P8, with spare bits and a spare word set
    ∷ record { request = asked lone 2 [] (5 ∷ 7 ∷ []) filter; answer = numbers 1 1 1 0 0; words = 5 ∷ 7 ∷ []; counts = 1 ∷ 0 ∷ []; place = 0; supports = 7 ∷ [] }
    -- P9
    ∷ record { request = asked network_a 2 pairs (127 ∷ []) (choose 2 6); answer = numbers 0 64 3 2 2; words = 82 ∷ []; counts = 1 ∷ 1 ∷ 1 ∷ []; place = 0; supports = [] }
    -- A1 (card 4): in pairs of neighbours any agrees with both
    ∷ record { request = a1; answer = numbers 0 64 3 0 0; words = 7 ∷ []; counts = 1 ∷ 1 ∷ 1 ∷ []; place = 0; supports = 0 ∷ 0 ∷ 0 ∷ 0 ∷ [] }
    -- A2: a chain of pairs through an any is not a support
    ∷ record { request = a2; answer = numbers 1 0 0 0 3; words = 0 ∷ []; counts = 0 ∷ 0 ∷ 0 ∷ []; place = 0; supports = 65535 ∷ [] }
    -- A3: a choice does not remove the tuple with any under its variable
    ∷ record { request = asked vague 2 (0 ∷ 1 ∷ []) (15 ∷ []) (choose 0 4); answer = numbers 0 64 2 1 1; words = 5 ∷ []; counts = 1 ∷ 1 ∷ []; place = 0; supports = 0 ∷ 0 ∷ 65535 ∷ [] }
    -- A4: choosing any removes nothing
    ∷ record { request = asked vague 2 (0 ∷ 1 ∷ []) (15 ∷ []) (choose 0 any_value); answer = numbers 0 64 4 0 0; words = 15 ∷ []; counts = 2 ∷ 2 ∷ []; place = 0; supports = 0 ∷ 0 ∷ 1 ∷ 1 ∷ [] }
    -- S1 (card 7): 2 under variable 1 removes ids 0 and 3, 6 under variable 2 ids 3 and 5
    ∷ record { request = asked network_a 2 pairs (127 ∷ []) (choose_several (1 ∷ 2 ∷ []) (2 ∷ 6 ∷ [])); answer = numbers 0 64 3 3 1; words = 82 ∷ []; counts = 1 ∷ 1 ∷ 1 ∷ []; place = 0; supports = [] }
    -- S2: the pairs go by place
    ∷ record { request = asked network_a 2 pairs (127 ∷ []) (choose_several (2 ∷ 1 ∷ []) (5 ∷ 1 ∷ [])); answer = numbers 0 64 3 4 0; words = 41 ∷ []; counts = 1 ∷ 1 ∷ 1 ∷ []; place = 0; supports = [] }
    -- S3: of contrary values for variable 0, any alone is left
    ∷ record { request = asked vague 2 (0 ∷ 1 ∷ []) (15 ∷ []) (choose_several (0 ∷ 0 ∷ []) (3 ∷ 4 ∷ [])); answer = numbers 0 64 2 1 1; words = 5 ∷ []; counts = 1 ∷ 1 ∷ []; place = 0; supports = 0 ∷ 0 ∷ 65535 ∷ [] }
    -- S4: no pair
    ∷ record { request = asked network_a 2 pairs (127 ∷ []) (choose_several [] []); answer = numbers 0 64 6 0 1; words = 123 ∷ []; counts = 2 ∷ 2 ∷ 2 ∷ []; place = 0; supports = [] }
    ∷ []

abbrev pub Seen : Type 0
Seen = Numbers × List ℕ × List ℕ × List ℕ

-- what the request's reply shows of an example
unfoldable pub given : Example → Seen
given e =
    let p = reply e.request in
    (p.answer, p.words, p.counts, take (length e.supports) (drop e.place p.supports))

-- what the paper says of it
unfoldable pub said : Example → Seen
said e = (e.answer, e.words, e.counts, e.supports)

-- P1 to P9, A1 to A4, S1 to S4
pub examples : map given table ≡ map said table
unfolding table given said relation network_a triangle lone chain vague pairs asked next numbers p1 p3 p6 p7 a1 a2 TupleSet.closure Network.relation_of Network.index_of Network.scope_of Network.values_at Network.tuple_of Agreement.is_any Agreement.fit Agreement.clash Agreement.clashes Agreement.cells_of Agreement.first_clash Agreement.agree Agreement.share Combination.combinations Combination.connected Support.candidates Support.is_support Support.supports Support.first_support Consistency.supported Consistency.filtered Consistency.support_list Consistency.needed LiveWords.bit LiveWords.is_set LiveWords.is_live LiveWords.living LiveWords.word LiveWords.written Request.removes LiveCounts.live_counts Fault.untrue Fault.list_faults Fault.faults_on Fault.faults Reply.lowest_empty Reply.answer_for Reply.remainder Reply.counts_for Reply.leaving Reply.accepted Reply.reply
examples = refl

-- ---- Bigger combinations

-- the combinations of the one request lie inside those of the other
inside : Request → Request → Bool
inside p q = all_inside (combinations_of p.given) (combinations_of q.given)

-- P6's pairs lie inside P7's triple, which does not lie inside them; the pairs leave all six tuples, and the triple none. With any the same
-- of A1's pairs and A2's triple. A pair that stands twice, and before an earlier one, lies inside P6's.
bigger-removes-more : (inside p6 p7 ≡ true) × (inside p7 p6 ≡ false) × ((reply p6).words ≡ 63 ∷ []) × ((reply p7).words ≡ 0 ∷ []) × (inside a1 a2 ≡ true) × ((reply a1).words ≡ 7 ∷ []) × ((reply a2).words ≡ 0 ∷ []) × (inside (asked triangle 2 (1 ∷ 2 ∷ 0 ∷ 1 ∷ 1 ∷ 2 ∷ []) [] filter) p6 ≡ true)
unfolding inside relation triangle chain pairs asked p6 p7 a1 a2 Tighter.lies_inside Tighter.all_inside TupleSet.closure Network.relation_of Network.index_of Network.scope_of Network.values_at Network.tuple_of Agreement.is_any Agreement.fit Agreement.clash Agreement.clashes Agreement.cells_of Agreement.first_clash Agreement.agree Agreement.share Combination.combinations Combination.connected Support.candidates Support.is_support Support.supports Support.first_support Consistency.supported Consistency.filtered Consistency.support_list Consistency.needed LiveWords.bit LiveWords.is_set LiveWords.is_live LiveWords.living LiveWords.word LiveWords.written Request.removes LiveCounts.live_counts Fault.untrue Fault.list_faults Fault.faults_on Fault.faults Reply.lowest_empty Reply.answer_for Reply.remainder Reply.counts_for Reply.leaving Reply.accepted Reply.reply
bigger-removes-more = (refl, refl, refl, refl, refl, refl, refl, refl)

-- ---- The first fault wins

-- two relations of one variable and one tuple each
twins : List ℕ → Network
twins variables = record { relations = relation 1 1 ∷ relation 1 1 ∷ []; variables = variables; values = 0 ∷ 0 ∷ [] }

sized : List Relation → Network
sized Rs = record { relations = Rs; variables = 64 ∷ []; values = [] }

-- a request whose lists of supports and of counts are empty
bare : Network → ℕ → List ℕ → List ℕ → Request
bare N m members words =
    record { given = record { network = N; m = m; members = members }; words = words; supports = []; counts = []; change = withdraw (2 ∷ []) }

-- a request with the counts 1 and k, on twins
tallied : ℕ → Change → Request
tallied k change =
    record {
      given = record { network = twins (0 ∷ 0 ∷ []); m = 2; members = 0 ∷ 1 ∷ [] };
      words = 3 ∷ [];
      supports = replicate 4 7;
      counts = 1 ∷ k ∷ [];
      change = change;
    }

-- Requests with the faults 2 to 12, 18, 13, 14 and 19: each has its own fault and nearly all later ones.
damaged : List Request
unfolding twins sized bare tallied
damaged =
    bare (sized (replicate 65 (relation 0 65535))) 5 (9 ∷ []) []
    ∷ bare (sized (relation 1 65535 ∷ relation 9 65535 ∷ [])) 5 (9 ∷ []) []
    ∷ bare (sized (relation 1 4096 ∷ relation 8 1 ∷ [])) 5 (9 ∷ []) []
    ∷ bare (sized (relation 1 1 ∷ relation 1 1 ∷ [])) 5 (9 ∷ []) []
    ∷ bare (twins (0 ∷ 64 ∷ [])) 5 (9 ∷ []) []
    ∷ bare (twins (0 ∷ 1 ∷ [])) 5 (9 ∷ []) []
    ∷ bare (twins (0 ∷ 1 ∷ [])) 2 (9 ∷ []) []
    ∷ bare (twins (0 ∷ 1 ∷ [])) 2 (0 ∷ 1 ∷ 0 ∷ 2 ∷ []) []
    ∷ bare (twins (0 ∷ 1 ∷ [])) 2 (0 ∷ 1 ∷ []) []
    ∷ bare (twins (0 ∷ 0 ∷ [])) 2 (0 ∷ 1 ∷ []) []
    ∷ bare (twins (0 ∷ 0 ∷ [])) 2 (0 ∷ 1 ∷ []) (3 ∷ [])
    ∷ tallied 2 (withdraw (2 ∷ []))
    ∷ tallied 0 (choose 64 0)
    ∷ tallied 1 (withdraw (0 ∷ 2 ∷ []))
    ∷ tallied 1 (choose 64 0)
    ∷ tallied 0 (choose_several (64 ∷ []) [])
    ∷ tallied 1 (choose_several (64 ∷ []) [])
    ∷ tallied 1 (choose_several (0 ∷ 64 ∷ []) (0 ∷ 0 ∷ []))
    ∷ []

-- each is refused with the number of its first fault
first-fault-wins : map (λ (q : Request). (reply q).answer) damaged ≡ map (λ (n : ℕ). numbers 2 n 0 0 0) (from 2 11 ++ (18 ∷ 18 ∷ 13 ∷ 14 ∷ 18 ∷ 19 ∷ 14 ∷ []))
unfolding damaged twins sized bare tallied relation asked numbers TupleSet.closure Network.relation_of Network.index_of Network.scope_of Network.values_at Network.tuple_of Agreement.is_any Agreement.fit Agreement.clash Agreement.clashes Agreement.cells_of Agreement.first_clash Agreement.agree Agreement.share Combination.combinations Combination.connected Support.candidates Support.is_support Support.supports Support.first_support Consistency.supported Consistency.filtered Consistency.support_list Consistency.needed LiveWords.bit LiveWords.is_set LiveWords.is_live LiveWords.living LiveWords.word LiveWords.written Request.removes LiveCounts.live_counts Fault.untrue Fault.list_faults Fault.faults_on Fault.faults Reply.lowest_empty Reply.answer_for Reply.remainder Reply.counts_for Reply.leaving Reply.accepted Reply.reply
first-fault-wins = refl

-- ---- Where two tuples clash

-- scopes 9, 4, 1 and 4, 9, 2: shared variables in falling order, and in other places
unfoldable pub crossed : Network
crossed =
    record {
      relations = relation 3 2 ∷ relation 3 3 ∷ [];
      variables = 9 ∷ 4 ∷ 1 ∷ 4 ∷ 9 ∷ 2 ∷ [];
      values = 5 ∷ 6 ∷ 7 ∷ 5 ∷ 6 ∷ 8 ∷ 6 ∷ 5 ∷ 7 ∷ 1 ∷ 2 ∷ 3 ∷ 6 ∷ 2 ∷ 3 ∷ [];
    }

-- the lowest clash is named, whichever is met first and whichever tuple is named first
first-clashes : map (λ (p : ℕ × ℕ). compare_reply crossed p.0 p.1) ((0, 2) ∷ (0, 3) ∷ (3, 0) ∷ (0, 4) ∷ (0, 1) ∷ (0, 5) ∷ []) ≡ (1, 64) ∷ (0, 4) ∷ (0, 4) ∷ (0, 9) ∷ (0, 1) ∷ (2, 13) ∷ []
unfolding crossed relation Network.relation_of Network.index_of Network.scope_of Network.values_at Network.tuple_of Agreement.is_any Agreement.fit Agreement.clash Agreement.clashes Agreement.cells_of Agreement.first_clash Fault.compare_faults Reply.compare_reply
first-clashes = refl

-- any agrees with every value
any-agrees : map (λ (p : ℕ × ℕ). compare_reply chain p.0 p.1) ((0, 1) ∷ (1, 2) ∷ (0, 2) ∷ []) ≡ (1, 64) ∷ (1, 64) ∷ (0, 0) ∷ []
unfolding chain relation Network.relation_of Network.index_of Network.scope_of Network.values_at Network.tuple_of Agreement.is_any Agreement.fit Agreement.clash Agreement.clashes Agreement.cells_of Agreement.first_clash Fault.compare_faults Reply.compare_reply
any-agrees = refl

-- .. and yet the three tuples are no support of the first: every two must agree
chain-no-support : (Agreement.agree chain 0 1 ≡ true) × (Agreement.agree chain 1 2 ≡ true) × (Support.is_support chain (true ∷ true ∷ true ∷ []) 0 (0 ∷ 1 ∷ 2 ∷ []) ≡ false)
unfolding chain relation Network.relation_of Network.index_of Network.scope_of Network.values_at Network.tuple_of Agreement.is_any Agreement.fit Agreement.clash Agreement.clashes Agreement.cells_of Agreement.first_clash Agreement.agree Support.is_support
chain-no-support = (refl, refl, refl)

-- 65,535, which was any while values had 16 bits, agrees with itself alone; values that differ in one half alone differ (card 9)
unfoldable pub wide : Network
wide =
    record {
      relations = relation 1 2 ∷ relation 1 2 ∷ [];
      variables = 0 ∷ 0 ∷ [];
      values = 65535 ∷ 65537 ∷ 65535 ∷ 1 ∷ [];
    }

wide-values-differ : map (λ (p : ℕ × ℕ). compare_reply wide p.0 p.1) ((0, 2) ∷ (0, 3) ∷ (1, 2) ∷ (1, 3) ∷ []) ≡ (1, 64) ∷ (0, 0) ∷ (0, 0) ∷ (0, 0) ∷ []
unfolding wide relation Network.relation_of Network.index_of Network.scope_of Network.values_at Network.tuple_of Agreement.is_any Agreement.fit Agreement.clash Agreement.clashes Agreement.cells_of Agreement.first_clash Fault.compare_faults Reply.compare_reply
wide-values-differ = refl

-- ---- Connected combinations listed (card 1)

-- n relations, relation r with the variables f r, and no tuples
unfoldable pub bare_network : ℕ → (ℕ → List ℕ) → Network
bare_network n f =
    record { relations = map (λ (r : ℕ). relation (length (f r)) 0) (from 0 n); variables = each f (from 0 n); values = [] }

-- relations 0 and 1 share nothing, and both share with relation 2, relation 3 with relation 1 alone
unfoldable pub hub : Network
hub = bare_network 4 (λ (r : ℕ). get_or ((0 ∷ []) ∷ (1 ∷ 3 ∷ []) ∷ (0 ∷ 1 ∷ []) ∷ (3 ∷ []) ∷ []) r [])

-- so many relations that share one variable
unfoldable pub alike : ℕ → Network
alike n = bare_network n (λ (r : ℕ). 0 ∷ [])

lent : List ℕ
lent = replicate 7 9

-- book A's three pairs; of the hub two triples, of which one has members beside each other that share nothing; none of more members than
-- there are relations
listed-all : map (λ (q : Network × ℕ). enumeration_reply q.0 q.1 lent) ((network_a, 2) ∷ (hub, 3) ∷ (network_a, 4) ∷ []) ≡ enumerated (Listed 3) (0 ∷ 1 ∷ 0 ∷ 2 ∷ 1 ∷ 2 ∷ 9 ∷ []) ∷ enumerated (Listed 2) (0 ∷ 1 ∷ 2 ∷ 1 ∷ 2 ∷ 3 ∷ 9 ∷ []) ∷ enumerated (Listed 0) lent ∷ []
unfolding lent network_a hub bare_network relation Network.scope_of Agreement.share Combination.connected Enumeration.connected_combinations Enumeration.enumeration_faults Enumeration.enumeration_reply
listed-all = refl

-- refused: no relation; one member, and five; over 256, whatever list is lent; a list of five numbers for six
listing-refused : map (λ (q : Network × (ℕ × List ℕ)). enumeration_reply q.0 q.1.0 q.1.1) ((alike 0, (1, lent)) ∷ (network_a, (1, lent)) ∷ (network_a, (5, [])) ∷ (alike 24, (2, [])) ∷ (network_a, (2, take 5 lent)) ∷ []) ≡ enumerated (Refused 2) lent ∷ enumerated (Refused 7) lent ∷ enumerated (Refused 7) [] ∷ enumerated (Refused 15) [] ∷ enumerated (Refused 16) (take 5 lent) ∷ []
unfolding lent network_a alike bare_network relation Network.scope_of Agreement.share Combination.connected Enumeration.connected_combinations Enumeration.enumeration_faults Enumeration.enumeration_reply
listing-refused = refl

-- ---- Moves between the old form and the new one (card 9)

-- one relation of one variable x, with these values
column : ℕ → List ℕ → Network
column x values = record { relations = relation 1 (length values) ∷ []; variables = x ∷ []; values = values }

-- 65,535 becomes any and any 65,535, every other value stays, and so do the entries past the values; 23 is given for 65,535 and for
-- 4,294,967,294, before 24 and after 6
moves : map (λ (c : Move × Network × List ℕ). move_reply c.0 c.1 c.2)
    ((widen, column 0 (7 ∷ 65534 ∷ 65535 ∷ []), 1 ∷ 2 ∷ 3 ∷ 4 ∷ [])
    ∷ (narrow, column 0 (7 ∷ 65534 ∷ 4294967295 ∷ []), 1 ∷ 2 ∷ 3 ∷ 4 ∷ [])
    ∷ (narrow, column 0 (65535 ∷ 7 ∷ []), 1 ∷ [])
    ∷ (narrow, column 0 (7 ∷ 4294967294 ∷ []), 1 ∷ 2 ∷ [])
    ∷ (widen, column 0 (7 ∷ 65534 ∷ []), 1 ∷ [])
    ∷ (narrow, column 64 (65535 ∷ []), [])
    ∷ [])
    ≡ move_to none (7 ∷ 65534 ∷ 4294967295 ∷ []) (1 ∷ 2 ∷ 3 ∷ 4 ∷ [])
    ∷ move_to none (7 ∷ 65534 ∷ 65535 ∷ []) (1 ∷ 2 ∷ 3 ∷ 4 ∷ [])
    ∷ move_to (some 23) [] (1 ∷ [])
    ∷ move_to (some 23) [] (1 ∷ 2 ∷ [])
    ∷ move_to (some 24) [] (1 ∷ [])
    ∷ move_to (some 6) [] []
    ∷ []
unfolding column relation Network.scope_of Agreement.is_any Moves.widened Moves.narrowed Moves.move_reply
moves = refl

-- ---- The desk's text

-- input A
lines_a : List (List ℕ)
lines_a =
    (3 ∷ 2 ∷ 3 ∷ [])
    ∷ (2 ∷ 3 ∷ [])
    ∷ (0 ∷ 1 ∷ [])
    ∷ (1 ∷ 1 ∷ [])
    ∷ (1 ∷ 2 ∷ [])
    ∷ (2 ∷ 2 ∷ [])
    ∷ (2 ∷ 2 ∷ [])
    ∷ (1 ∷ 2 ∷ [])
    ∷ (1 ∷ 5 ∷ [])
    ∷ (2 ∷ 6 ∷ [])
    ∷ (2 ∷ 2 ∷ [])
    ∷ (2 ∷ 0 ∷ [])
    ∷ (5 ∷ 1 ∷ [])
    ∷ (6 ∷ 1 ∷ [])
    ∷ (0 ∷ 1 ∷ [])
    ∷ (0 ∷ 2 ∷ [])
    ∷ (1 ∷ 2 ∷ [])
    ∷ []

-- its output
listed_a : List (List ℕ)
listed_a =
    (0 ∷ 64 ∷ 6 ∷ 1 ∷ [])
    ∷ (0 ∷ 0 ∷ 1 ∷ 1 ∷ [])
    ∷ (0 ∷ 1 ∷ 1 ∷ 2 ∷ [])
    ∷ (1 ∷ 0 ∷ 1 ∷ 5 ∷ [])
    ∷ (1 ∷ 1 ∷ 2 ∷ 6 ∷ [])
    ∷ (2 ∷ 0 ∷ 5 ∷ 1 ∷ [])
    ∷ (2 ∷ 1 ∷ 6 ∷ 1 ∷ [])
    ∷ []

input-A : listing (text_of lines_a) ≡ text_of listed_a
unfolding lines_a listed_a Text.decimal Text.text_of Reading.read_field Reading.read_instance Reading.read Listing.all_live Listing.fresh Listing.tuple_lines Listing.reply_lines Listing.listing relation asked numbers TupleSet.closure Network.relation_of Network.index_of Network.scope_of Network.values_at Network.tuple_of Agreement.is_any Agreement.fit Agreement.clash Agreement.clashes Agreement.cells_of Agreement.first_clash Agreement.agree Agreement.share Combination.combinations Combination.connected Support.candidates Support.is_support Support.supports Support.first_support Consistency.supported Consistency.filtered Consistency.support_list Consistency.needed LiveWords.bit LiveWords.is_set LiveWords.is_live LiveWords.living LiveWords.word LiveWords.written Request.removes LiveCounts.live_counts Fault.untrue Fault.list_faults Fault.faults_on Fault.faults Reply.lowest_empty Reply.answer_for Reply.remainder Reply.counts_for Reply.leaving Reply.accepted Reply.reply
input-A = refl

-- its combinations for each m: the three pairs, the triple; m is not 5
combinations-A : map (λ (m : ℕ). combination_listing m (text_of lines_a)) (2 ∷ 3 ∷ 5 ∷ [])
    ≡ text_of ((0 ∷ 0 ∷ 3 ∷ 0 ∷ []) ∷ (0 ∷ 1 ∷ []) ∷ (0 ∷ 2 ∷ []) ∷ (1 ∷ 2 ∷ []) ∷ [])
    ∷ text_of ((0 ∷ 0 ∷ 1 ∷ 0 ∷ []) ∷ (0 ∷ 1 ∷ 2 ∷ []) ∷ [])
    ∷ text_of ((2 ∷ 7 ∷ 0 ∷ 0 ∷ []) ∷ [])
    ∷ []
unfolding lines_a Text.decimal Text.text_of Reading.read_field Reading.read_instance Reading.read Listing.enumeration_lines Listing.combination_listing Network.scope_of Agreement.share Combination.combinations Combination.connected Enumeration.connected_combinations Enumeration.enumeration_faults Enumeration.enumeration_reply
combinations-A = refl

-- the text of n relations of w variables and h tuples, whose values are all v, and of k combinations of m
book : ℕ → ℕ → ℕ → ℕ → ℕ → ℕ → List ℕ
book n m k w h v =
    text_of ((n ∷ m ∷ k ∷ []) ∷ (each (λ (r : ℕ). (w ∷ h ∷ []) ∷ replicate w 0 ∷ replicate h (replicate w v)) (from 0 n) ++ replicate k (replicate m 0)))

-- the text 1,2,0 / 1,1 / 0 / 7
short : List ℕ
short = book 1 2 0 1 1 7

-- .. with variable x
scoped : ℕ → List ℕ
scoped x = text_of ((1 ∷ 2 ∷ 0 ∷ []) ∷ (1 ∷ 1 ∷ []) ∷ (x ∷ []) ∷ (7 ∷ []) ∷ [])

damaged_texts : List (List ℕ)
damaged_texts =
    -- 0 and 65 relations, m 1 and 5, 257 combinations, 0 and 9 variables, 4,097 tuples, a value 4,294,967,296,
    -- a variable 65,536, over 32,768 bytes
    book 0 2 0 1 1 7
    ∷ book 65 2 0 1 1 7
    ∷ book 1 1 1 1 1 7
    ∷ book 1 5 1 1 1 7
    ∷ book 1 2 257 1 1 7
    ∷ book 1 2 0 0 1 7
    ∷ book 1 2 0 9 1 7
    ∷ book 17 2 0 1 241 7
    ∷ book 1 2 0 1 1 4294967296
    ∷ scoped 65536
    ∷ book 1 2 0 8 373 4294967295
    -- a leading nought, an empty field, a letter, no last newline, a byte behind the last line
    ∷ (take 12 short ++ (48 ∷ 55 ∷ 10 ∷ []))
    ∷ (take 12 short ++ (10 ∷ []))
    ∷ set short 12 97
    ∷ take 13 short
    ∷ (short ++ (10 ∷ []))
    ∷ []

-- each is refused
texts-refused : map read damaged_texts ≡ map (λ (t : List ℕ). none) damaged_texts
unfolding damaged_texts book short scoped Text.decimal Text.text_of Reading.read_field Reading.read_instance Reading.read
texts-refused = refl

is_read : Option Instance → Bool
is_read none = false
is_read (some I) = true

-- the largest numbers in range are read: 64 relations, m 4, 256 combinations, 8 variables, values 4,294,967,295; 4,096 tuples;
-- variable 65,535; 32,764 bytes
texts-read : all (λ (t : List ℕ). is_read (read t)) (short ∷ book 64 4 256 8 1 4294967295 ∷ book 16 2 0 1 256 7 ∷ scoped 65535 ∷ book 1 2 0 8 372 4294967295 ∷ []) ≡ true
unfolding is_read book short scoped Text.decimal Text.text_of Reading.read_field Reading.read_instance Reading.read
texts-read = refl
