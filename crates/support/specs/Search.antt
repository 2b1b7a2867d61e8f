-- What the search for a support asks of its lists, what it knows of the tuples chosen so far, and what its answer stands for.
use Rattle.std.specs.Prelude.{◌≡◌, Bool, true, false, ◌&&◌, cond, ◌⊎◌, List, [], ◌∷◌, ◌++◌, map, ℕ, suc, ◌+◌, ◌-◌, ◌*◌, ◌%◌, ◌≤◌, ◌<◌, eqb, length, get_or, take, drop, set}
use Rattle.std.proofs.Math.Option.{Option, none, some}
use Rattle.model.specs.Limits.{word_bits, max_relations, max_members}
use Rattle.model.specs.Lists.{from, all, pairwise, earlier}
use Rattle.model.specs.Network.{Network, size, total, first_id, ids_of}
use Rattle.model.specs.Agreement.{agree}
use Rattle.model.specs.TupleSet.{TupleSet, has}
use Rattle.model.specs.Combination.{Combination}
use Rattle.model.specs.Support.{support_from, completion}
use Rattle.model.specs.LiveWords.{living, is_live}
use Rattle.model.specs.Fault.{proper_members}
use Rattle.layout.specs.Starts.{tuple_start}
use Rattle.layout.specs.Setting.{Lists, lists, network_in, SoundLists}
use Rattle.value_index.specs.Index.{Indexed}
use Rattle.narrowing.specs.Narrows.{Later}
use Rattle.narrowing.specs.declared.sieve.Sieve.{Sieve}
use Rattle.narrowing.specs.Sieve.{passes_sieve}
use Rattle.doubles.specs.Alike.{Alike}
use Rattle.doubles.specs.Doubles.{Entered}
use Rattle.support.specs.declared.Found.{Found}
use Rattle.support.specs.declared.Span.{Span}
use Rattle.support.specs.declared.Stage.{Stage}
use Rattle.support.specs.declared.Walked.{Walked}

-- ---- The search

-- A search: a network's lists, the live words, the members, and the tuple `own` of the member at `place`, which seeks a support at or
-- after `low`.
pub record Search : Type 0 where
  pub lists : Lists
  pub words : List ℕ
  pub members : Combination
  pub place : ℕ
  pub own : ℕ
  pub low : List ℕ

-- the search that references lend at a moment: `searching now ..` in a requires, `searching entry ..` in an ensures
abbrev pub searching : {A : Type 0} → (A → List ℕ) → A → A → A → A → A → ℕ → ℕ → List ℕ → Search
searching at variables values starts words members place own low =
    record { lists = lists at variables values starts; words = at words; members = at members; place = place; own = own; low = low }

abbrev pub net_of : Search → Network
net_of Q = network_in Q.lists

abbrev pub live_of : Search → TupleSet
live_of Q = living (total (net_of Q)) Q.words

-- the id of tuple x of the member at place j
abbrev pub id_at : Network → Combination → ℕ → ℕ → ℕ
id_at N c j x = first_id N (get_or c j 0) + x

-- the tuple that seeks a support
abbrev pub seeker : Search → ℕ
seeker Q = id_at (net_of Q) Q.members Q.place Q.own

-- What a search asks: sound lists, words for all tuples, members that exist and rise, the seeking tuple one of its member's, and a bound
-- that has this tuple and otherwise indices, or a member's size.
pub record SoundSearch (Q : Search) : Type 0 where
  pub laid : SoundLists Q.lists
  pub words : total (net_of Q) ≤ word_bits * length Q.words
  pub members : proper_members (net_of Q) Q.members ≡ true
  pub few : length Q.members ≤ max_members
  pub place : Q.place < length Q.members
  pub own : Q.own < size (net_of Q) (get_or Q.members Q.place 0)
  pub low-own : get_or Q.low Q.place 0 ≡ Q.own
  pub low-within : (j : ℕ) → j < length Q.members → get_or Q.low j 0 ≤ size (net_of Q) (get_or Q.members j 0)

-- .. with the value index
pub record Seeking (Q : Search) (index : List ℕ) : Type 0 where
  pub sound : SoundSearch Q
  pub indexed : Indexed (net_of Q) index

-- ---- One member's turn

-- the ids of the tuples chosen for the first k members, by their indices
unfoldable pub chosen_ids : Network → Combination → List ℕ → ℕ → List ℕ
chosen_ids N c chosen k = map (λ (j : ℕ). id_at N c j (get_or chosen j 0)) (from 0 k)

-- What is known of the tuples chosen for the first k members: they are live and agree with each other, and up to the seeking tuple's
-- place with it; they begin `low` where the search resumes, and are later where it does not.
pub record Prefix (Q : Search) (k : ℕ) (resumes : Bool) (chosen : List ℕ) : Type 0 where
  pub depth : k ≤ length Q.members
  pub within : (j : ℕ) → j < k → get_or chosen j 0 < size (net_of Q) (get_or Q.members j 0)
  pub own : Q.place < k → get_or chosen Q.place 0 ≡ Q.own
  pub live : all (has (live_of Q)) (chosen_ids (net_of Q) Q.members chosen k) ≡ true
  pub pairs : pairwise (agree (net_of Q)) (chosen_ids (net_of Q) Q.members chosen k) ≡ true
  pub seeker : k ≤ Q.place → all (agree (net_of Q) (seeker Q)) (chosen_ids (net_of Q) Q.members chosen k) ≡ true
  pub at_low : resumes ≡ true → take k chosen ≡ take k Q.low
  pub past-low : resumes ≡ false → earlier Q.low (take k chosen) ≡ true

-- It is the turn of member k, which is not the seeking tuple's own; the seeking tuple is live.
pub record SearchAt (Q : Search) (index : List ℕ) (k : ℕ) (resumes : Bool) (chosen : List ℕ) : Type 0 where
  pub seeking : Seeking Q index
  pub prefix : Prefix Q k resumes chosen
  pub lives : has (live_of Q) (seeker Q) ≡ true
  pub inside : k < length Q.members
  pub other : k ≡ Q.place → ⊥

-- the stage at member k, or past it if that is the seeking tuple's own, for which this tuple is chosen
abbrev pub past_own : ℕ → ℕ → ℕ → List ℕ → Stage
past_own place own k chosen =
    cond (eqb k place) (record { k = k + 1; chosen = set chosen k own }) (record { k = k; chosen = chosen })

-- the place behind k, past the seeking tuple's
abbrev pub place_behind : ℕ → ℕ → ℕ
place_behind place k = cond (eqb (k + 1) place) (k + 2) (k + 1)

-- the ids that a member's walk goes over: the relation's tuples, from index `from` on where the search resumes
abbrev pub span_at : List ℕ → ℕ → Bool → ℕ → Span
span_at starts r resumes from =
    let first = tuple_start starts r in
    record { first = first; start = cond resumes (first + from) first; end = tuple_start starts (r + 1) }

-- tuple x of member k agrees with the seeking tuple, and with all chosen before it
unfoldable pub fits : Network → Combination → ℕ → ℕ → ℕ → List ℕ → ℕ → Bool
fits N c place own k chosen x = all (λ (y : ℕ). agree N y (id_at N c k x)) (id_at N c place own ∷ chosen_ids N c chosen k)

-- What the test of tuple x of member k asks.
pub record Trial (L : Lists) (c : Combination) (place own k : ℕ) (chosen : List ℕ) (x : ℕ) : Type 0 where
  pub laid : SoundLists L
  pub inside : k < length c
  pub few : length c ≤ max_members
  pub place_in : place < length c
  pub own_in : own < size (network_in L) (get_or c place 0)
  pub index : x < size (network_in L) (get_or c k 0)
  pub within : (j : ℕ) → j < k → get_or chosen j 0 < size (network_in L) (get_or c j 0)
  pub own-chosen : place < k → get_or chosen place 0 ≡ own

-- What the tests of all its tuples ask.
pub record Trials (L : Lists) (c : Combination) (place own k : ℕ) (chosen : List ℕ) : Type 0 where
  pub laid : SoundLists L
  pub inside : k < length c
  pub few : length c ≤ max_members
  pub relation : get_or c k 0 < max_relations
  pub each : (x : ℕ) → x < size (network_in L) (get_or c k 0) → Trial L c place own k chosen x

-- .. from id `from` on, by tuple x of the member at `by`: it is the seeking tuple or one chosen.
pub record FittingAt (L : Lists) (index : List ℕ) (c : Combination) (place own k : ℕ) (chosen : List ℕ) (from by x : ℕ) : Type 0 where
  pub trials : Trials L c place own k chosen
  pub indexed : Indexed (network_in L) index
  pub from_first : first_id (network_in L) (get_or c k 0) ≤ from
  pub to_end : from ≤ first_id (network_in L) (get_or c k 0) + size (network_in L) (get_or c k 0)
  pub by-inside : by < length c
  pub by-own : x < size (network_in L) (get_or c by 0)
  pub fixed : ((by ≡ place) × (x ≡ own)) ⊎ ((by < k) × (x ≡ get_or chosen by 0))

-- Id g is that of a live tuple of member k, or the end of its ids.
pub record ComesFrom (N : Network) (c : Combination) (k : ℕ) (words : List ℕ) (g : ℕ) : Type 0 where
  pub from_first : first_id N (get_or c k 0) ≤ g
  pub to_end : g ≤ first_id N (get_or c k 0) + size N (get_or c k 0)
  pub lives : g < first_id N (get_or c k 0) + size N (get_or c k 0) → is_live words g ≡ true

-- .. and the first such one from id `from` on that fits.
pub record FirstFitting (N : Network) (c : Combination) (place own k : ℕ) (chosen words : List ℕ) (from g : ℕ) : Type 0 where
  pub comes : ComesFrom N c k words g
  pub from_on : from ≤ g
  pub fitting : g < first_id N (get_or c k 0) + size N (get_or c k 0) → fits N c place own k chosen (g - first_id N (get_or c k 0)) ≡ true
  pub none_before : (h : ℕ) → from ≤ h → h < g → is_live words h ≡ true → fits N c place own k chosen (h - first_id N (get_or c k 0)) ≡ false

-- ---- The walk over a member's tuples

-- what there is to find once the tuples before k are chosen, and x
abbrev pub onward : Search → ℕ → List ℕ → ℕ → Option (List ℕ)
onward Q k chosen x = completion (net_of Q) (live_of Q) (seeker Q) Q.low (chosen_ids (net_of Q) Q.members chosen k ++ (x ∷ [])) (map (ids_of (net_of Q)) (drop (suc k) Q.members))

abbrev pub span : Search → ℕ → Bool → Span
span Q k resumes = span_at Q.lists.starts (get_or Q.members k 0) resumes (get_or Q.low k 0)

-- what is left to find from id g on
abbrev pub left : Search → ℕ → Bool → List ℕ → ℕ → Option (List ℕ)
left Q k resumes chosen g =
    completion (net_of Q) (live_of Q) (seeker Q) Q.low (chosen_ids (net_of Q) Q.members chosen k) (from g ((span Q k resumes).end - g) ∷ map (ids_of (net_of Q)) (drop (suc k) Q.members))

-- ---- The answer

-- what a search came to is a support
abbrev pub is_found : ℕ → Bool
is_found kind = eqb (kind % 2) 1

-- what this and the first m indices stand for
abbrev pub answer : Bool → List ℕ → Option (List ℕ)
answer ok tuples = cond ok (some tuples) none

-- what there is to find once the tuples before k are chosen
abbrev pub sought : Search → ℕ → List ℕ → Option (List ℕ)
sought Q k chosen =
    completion (net_of Q) (live_of Q) (seeker Q) Q.low (chosen_ids (net_of Q) Q.members chosen k) (map (ids_of (net_of Q)) (drop k Q.members))

abbrev pub Finds : Search → ℕ → List ℕ → Found → Type 0
Finds Q k chosen f = answer (is_found f.kind) (take (length Q.members) f.tuples) ≡ sought Q k chosen

-- .. with nothing chosen yet
abbrev pub FindsFirst : Search → Found → Type 0
FindsFirst Q f = answer (is_found f.kind) (take (length Q.members) f.tuples) ≡ support_from (net_of Q) (live_of Q) Q.members (seeker Q) Q.low

-- It is the turn of member k, which is not the last, and of its live tuple x, which is on the walk.
pub record AttemptAt (Q : Search) (index : List ℕ) (k : ℕ) (resumes : Bool) (chosen : List ℕ) (x : ℕ) : Type 0 where
  pub turn : SearchAt Q index k resumes chosen
  pub from_start : (span Q k resumes).start ≤ (span Q k resumes).first + x
  pub to_end : (span Q k resumes).first + x < (span Q k resumes).end
  pub lives : is_live Q.words ((span Q k resumes).first + x) ≡ true
  pub further : place_behind Q.place k < length Q.members

-- what there is to find with tuple x
abbrev pub Attempts : Search → ℕ → List ℕ → ℕ → Found → Type 0
Attempts Q k chosen x f = answer (is_found f.kind) (take (length Q.members) f.tuples) ≡ onward Q k chosen (tuple_start Q.lists.starts (get_or Q.members k 0) + x)

-- The walk has come to id g, a live one unless it is at its end: what is left to find is all there is to find.
pub record WalkAt (Q : Search) (k : ℕ) (resumes : Bool) (chosen : List ℕ) (g : ℕ) : Type 0 where
  pub from_start : (span Q k resumes).start ≤ g
  pub to_end : g ≤ (span Q k resumes).end
  pub lives : g < (span Q k resumes).end → is_live Q.words g ≡ true
  pub rest : left Q k resumes chosen g ≡ sought Q k chosen

-- A walk that found something found what there is to find; another one has come to an id.
pub record Walks (Q : Search) (k : ℕ) (resumes : Bool) (chosen : List ℕ) (w : Walked) : Type 0 where
  pub found : is_found w.kind ≡ true → sought Q k chosen ≡ some (take (length Q.members) w.tuples)
  pub on : is_found w.kind ≡ false → WalkAt Q k resumes chosen w.at

-- ---- Tuples that lead to nothing

-- It is the turn of member k, which is not the one at `place`.
pub record TurnOf (members : List ℕ) (place k : ℕ) : Type 0 where
  pub inside : k < length members
  pub place_in : place < length members
  pub other : k ≡ place → ⊥

-- Tuple x of member k agrees with no live tuple of a member behind.
pub record Alone (N : Network) (members : Combination) (place k : ℕ) (words : List ℕ) (x : ℕ) : Type 0 where
  pub j : ℕ
  pub later : Later members place (k + 1) j
  pub none : (z : ℕ) → z < size N (get_or members j 0) → is_live words (id_at N members j z) ≡ true → agree N (id_at N members k x) (id_at N members j z) ≡ true → ⊥

-- a tuple that does not pass the sieve does so
abbrev pub Sifts : Network → Combination → ℕ → ℕ → List ℕ → Sieve → Type 0
Sifts N members place k words sieve =
    (x : ℕ) → x < size N (get_or members k 0) → passes_sieve N (get_or members k 0) sieve x ≡ false → Alone N members place k words x

-- An entry y before x, with x's values under the variables of the set.
pub record Repeats (L : Lists) (set r x : ℕ) (table : List ℕ) : Type 0 where
  pub i : ℕ
  pub inside : i < length table
  pub before : get_or table i 0 < x
  pub alike : Alike L set r x (get_or table i 0)

-- it passes the sieve and fits
abbrev pub hopeful : Network → Combination → ℕ → ℕ → ℕ → List ℕ → Sieve → ℕ → Bool
hopeful N c place own k chosen sieve x = passes_sieve N (get_or c k 0) sieve x && fits N c place own k chosen x

-- Tuple x of member k may lead to a support only if it is hopeful; if it is and may not, it is not the one at which the search resumes, and
-- repeats an entry. It is entered only if it is hopeful and not that one.
pub record MayLead (L : Lists) (c : Combination) (place own k : ℕ) (chosen : List ℕ) (x : ℕ) (sieve : Sieve) (set : ℕ) (resumed : Bool) (before : List ℕ) (b : Bool) (after : List ℕ) : Type 0 where
  pub entered : Entered x before after
  pub same : (hopeful (network_in L) c place own k chosen sieve x ≡ false) ⊎ (resumed ≡ true) → after ≡ before
  pub right : b ≡ true → hopeful (network_in L) c place own k chosen sieve x ≡ true
  pub wrong : b ≡ false → hopeful (network_in L) c place own k chosen sieve x ≡ true → (resumed ≡ false) × Repeats L set (get_or c k 0) x before
