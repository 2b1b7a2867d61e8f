-- `visit::seek` meets its contract: what is held is the bound from which the search starts, and what that finds is the first support.
-- From the laws of the numbers held for a tuple, and the contracts of the functions called.
use mathlib.Core.Path.{◌≡◌, sym, ◌∙◌, ap, ap₂, subst}
use mathlib.Core.Logic.{⊎_elim}
use mathlib.Core.List.{List, ◌++◌}
use Prim.Native.Nat.{ℕ, ◌+◌, ◌-◌, ◌*◌, ◌/◌, ◌%◌, ◌≤◌, ◌<◌}
use native.Mathlib.Nat.{div-mul-le_self}
use native.Mathlib.Omega.{arith}
use lib.ListN.{length, get_or, take, drop, set, replicate}
use borrow.Author.Rules.{rules}
use borrow.Author.Tests.{eq-eqb, ne_eqb}
use Rattle.model.specs.Limits.{max_members}
use Rattle.model.specs.Network.{total}
use Rattle.model.specs.LiveWords.{cleared}
use Rattle.model.specs.Support.{support_from}
use Rattle.support.specs.Search.{Search, net_of, live_of, SoundSearch, is_found, answer}
use Rattle.support.specs.Search as support
use Rattle.support.specs.Spent.{FreshFrom, MeetsBeside}
use Rattle.layout.specs.Starts.{tuple_start}
use Rattle.layout.specs.Setting.{Setting, network, Sound}
use Rattle.layout.specs.Pairs.{combination_of, tuple_id, place_of}
use Rattle.engine.specs.Work.{Seeker, LeanIn, Beside, Renewed}
use Rattle.layout.proofs.SoundStarts.{tuples-few, tuple-start}
use Rattle.layout.proofs.Pairs.{member_below, tuple-below}
use Rattle.engine.proofs.Bounds.{held-inside, loaded, lead, low_of, low-none, low_held, searched, ready, lean-searched-lowest, lean-searched, renewed-found, renewed-none}
use Rattle.engine.proofs.Parts.{part-within, part-is}
use Rattle.engine.proofs.visit.seek.Statement.{statement}
use Rattle.engine.proofs.visit.seek.Tie as tie

-- ---- What it is called on

module _ (a : tie.Start) where
  abbrev G : Setting
  G =
      record {
        lists = record { variables = a.args.variables.now; values = a.args.values.now; starts = a.args.starts.now };
        members = a.args.members.now;
        m = a.args.m;
      }

  abbrev seeker : Seeker G a.args.words.now a.args.numbers.now a.args.p a.args.x
  seeker = a.requires.0.1.seeker

  abbrev sound : Sound G
  sound = seeker.sound

  abbrev in_members : a.args.p < length a.args.members.now
  in_members = seeker.pair

  abbrev is_at : a.args.at ≡ place_of G a.args.p a.args.x
  is_at = a.requires.0.1.place

  abbrev lean : LeanIn G a.args.p a.args.words.now a.args.lean.now
  lean = a.requires.1.0.1

  inside : a.args.at + a.args.m ≤ length a.args.numbers.now
  inside = omega (arith, is_at, held-inside seeker)

  abbrev loaded_of : List ℕ
  loaded_of = loaded seeker

abbrev entry : tie.After-wide-pair → tie.Start
entry c = c.before.before.before.before.before.before

-- ---- The numbers as they are read

each-is : (c : tie.After-wide-pair) → c.before.wide-each.result ≡ (entry c).args.m
each-is c = c.before.wide-each.ensures.0

pair_is : (c : tie.After-wide-pair) → c.wide-pair.result ≡ (entry c).args.p
pair_is c = c.wide-pair.ensures.0

place_is : (c : tie.After-wide-pair) → c.wide-pair.result % c.before.wide-each.result ≡ (entry c).args.p % (entry c).args.m
place_is c = ap₂ (λ (q n : ℕ). q % n) (pair_is c) (each-is c)

end_is : (c : tie.After-wide-pair) → c.wide-pair.result / c.before.wide-each.result * c.before.wide-each.result + c.before.wide-each.result ≤ length (entry c).args.members.now
end_is c = let a = entry c in part-within (sound a) (in_members a) c.wide-pair.result c.before.wide-each.result (pair_is c) (each-is c)

-- the numbers loaded
loaded-is : (w : tie.After-wide-pair) {low : List ℕ} → (let a = entry w in let n = w.before.wide-each.result in low ≡ take n (drop a.args.at a.args.numbers.now) ++ replicate (max_members - n) 0) → low ≡ loaded_of (entry w)
loaded-is w e =
    let a = entry w in
    e ∙ ap₂ (λ (n at : ℕ). take n (drop at a.args.numbers.now) ++ replicate (max_members - n) 0) (each-is w) (is_at a)

lead_is : (a : tie.Start) → get_or a.args.numbers.now a.args.at 0 ≡ lead (seeker a)
lead_is a = ap (λ (i : ℕ). get_or a.args.numbers.now i 0) (is_at a)

low-is : (c : tie.Joined-numbers-at) → c.if-numbers-at.low ≡ low_of (seeker (entry c.before.before.before))
low-is c =
    let w = c.before.before.before in
    let a = entry w in
    ⊎_elim
    {C = c.if-numbers-at.low ≡ low_of (seeker a)}
    (λ t. t.low-is ∙ loaded-is w t.load-low.ensures ∙ sym (low_held (seeker a) (λ e. t.if-numbers-at.true (lead_is a ∙ e))))
    (λ t. t.low-is ∙ c.before.before.put-low.ensures ∙ ap (λ (q : ℕ). set (replicate max_members 0) q a.args.x) (place_is w) ∙ sym (low-none (seeker a) (sym (lead_is a) ∙ t.if-numbers-at.false)))
    c.if-numbers-at.branch-raw

-- the combination
is-part : (c : tie.After-wide-pair) → (let a = entry c in let n = c.before.wide-each.result in let b = c.wide-pair.result / n * n in take (b + n - b) (drop b a.args.members.now) ≡ combination_of (G a) a.args.p)
is-part c = let a = entry c in part-is (sound a) (in_members a) c.wide-pair.result c.before.wide-each.result (pair_is c) (each-is c)

-- the search
abbrev search_of : tie.Start → List ℕ → ℕ → List ℕ → Search
search_of a members place low =
    record { lists = (G a).lists; words = a.args.lean.now; members = members; place = place; own = a.args.x; low = low }

search_is : (c : tie.Joined-numbers-at) → (let w = c.before.before.before in let a = entry w in let n = w.before.wide-each.result in let b = w.wide-pair.result / n * n in search_of a (take (b + n - b) (drop b a.args.members.now)) (w.wide-pair.result % n) c.if-numbers-at.low ≡ searched (seeker a) a.args.lean.now)
search_is c =
    let w = c.before.before.before in
    let a = entry w in
    ap₂ (λ (ms : List ℕ) (q : ℕ). search_of a ms q c.if-numbers-at.low) (is-part w) (place_is w)
    ∙ ap (search_of a (combination_of (G a) a.args.p) (a.args.p % a.args.m)) (low-is c)

-- what it answers
answer-is : (c : tie.After-first_support-found) → (let a = entry c.before.before.before.before.before.before.before.before in let Q = searched (seeker a) a.args.words.now in answer (is_found c.first_support-found.result.kind) (take (length Q.members) c.first_support-found.result.tuples) ≡ support_from (net_of Q) (live_of Q) Q.members (support.seeker Q) Q.low)
answer-is c =
    let a = entry c.before.before.before.before.before.before.before.before in
    subst (λ (Q : Search). answer (is_found c.first_support-found.result.kind) (take (length Q.members) c.first_support-found.result.tuples) ≡ support_from (net_of Q) (live_of Q) Q.members (support.seeker Q) Q.low)
    (search_is c.before.before.before.before.before)
    c.first_support-found.ensures.0
    ∙ lean-searched (seeker a) (lean a)

-- what is known of fresh tuples afterwards
beside : (c : tie.After-first_support-found) → (let a = entry c.before.before.before.before.before.before.before.before in Beside (G a) a.args.p a.args.lean.now c.first_support-found.new.fresh)
beside c =
    (c.first_support-found.ensures.1.0.0, subst (λ (Q : Search). MeetsBeside Q c.first_support-found.new.fresh) (search_is c.before.before.before.before.before) c.first_support-found.ensures.1.0.1)

-- ---- The tuple's id

abbrev looked : tie.After-tuple_start → tie.After-wide-pair
looked c = c.before.before.before.before.before.before.before.before.before.before.before.before

id-is : (c : tie.After-tuple_start) → (let a = entry (looked c) in c.tuple_start.result + a.args.x ≡ tuple_id (G a) a.args.p a.args.x)
id-is c =
    let a = entry (looked c) in
    let h = member_below (sound a).laid.framed (sound a).paired a.args.p (in_members a) in
    ap (λ (g : ℕ). g + a.args.x)
    (c.tuple_start.ensures
    ∙ ap (λ (q : ℕ). tuple_start a.args.starts.now (get_or a.args.members.now q 0)) (pair_is (looked c))
    ∙ tuple-start (sound a).laid.framed (get_or a.args.members.now a.args.p 0) (omega arith))

id_below : (c : tie.After-tuple_start) → (let a = entry (looked c) in c.tuple_start.result + a.args.x < total (network (G a)))
id_below c = let a = entry (looked c) in omega (arith, id-is c, tuple-below (sound a) a.args.p a.args.x (in_members a) (seeker a).index)

-- ---- The needs

load-requires : tie.Need-load-low-requires
load-requires c κs =
    let w = c.before.before.before in
    let a = entry w in
    (omega (arith, each-is w, inside a), omega (arith, each-is w, (sound a).paired.list.few))

first-support-requires : tie.Need-first_support-found-requires
first-support-requires c κs =
    let b = c.before.before.before.before in
    let w = b.before.before.before in
    let a = entry w in (
      ((lean a).long, record { sound = subst SoundSearch (sym (search_is b)) (ready (seeker a) (lean a).long); indexed = a.requires.0.1.indexed }),
      ((a.requires.1.0.0.0, subst (λ (Q : Search). FreshFrom Q a.args.fresh.now) (sym (search_is b)) (record { meets = a.requires.1.0.0.1; lowest = lean-searched-lowest (seeker a) (lean a) })), a.requires.1.1),
    )

store-requires : tie.Need-store-requires
store-requires c κs =
    let w = c.before.before.before.before.before.before.before.before.before.before.before in
    let a = entry w in
    (omega (arith, each-is w, inside a), omega (arith, each-is w, (sound a).paired.list.few))

returns : tie.Need-returns-then-kind-eq-FOUND
returns c =
    let f = c.before.before.before.before.before.before in
    let w = f.before.before.before.before.before.before.before.before in
    let a = entry w in (
      subst (Renewed (G a) a.args.p a.args.x a.args.words.now a.args.numbers.now (is_found f.first_support-found.result.kind) a.args.words.now)
          (sym
          (c.before.before.store.ensures
          ∙ ap₂ (λ (at n : ℕ). take at a.args.numbers.now ++ take n f.first_support-found.result.tuples ++ drop (at + n) a.args.numbers.now) (is_at a) (each-is w)))
          (renewed-found (seeker a)
          (is_found f.first_support-found.result.kind) f.first_support-found.result.tuples (answer-is f) (eq-eqb (f.first_support-found.result.kind % 2) 1 c.before.before.before.before.before.if-kind-eq-FOUND.true)),
      (beside f, f.first_support-found.ensures.1.1),
    )

returns-2 : tie.Need-returns
returns-2 c =
    let l = c.before in
    let f = l.before.before.before.before in
    let a = entry (looked l) in (
      subst (λ (ws : List ℕ). Renewed (G a) a.args.p a.args.x a.args.words.now a.args.numbers.now (is_found f.first_support-found.result.kind) ws a.args.numbers.now)
          (sym (c.clear.ensures ∙ ap (λ (g : ℕ). cleared g a.args.words.now) (id-is l)))
          (renewed-none (seeker a)
          (is_found f.first_support-found.result.kind) f.first_support-found.result.tuples (answer-is f) (ne_eqb (f.first_support-found.result.kind % 2) 1 l.before.before.before.if-kind-eq-FOUND.false)),
      (beside f, f.first_support-found.ensures.1.1),
    )

pub seek_spec : {M : Type 1} → statement M
seek_spec =
    tie.close
    (tie.spec
    (λ c κs. search rules)
    (λ c κs. search rules)
    (λ c. search rules)
    (λ c. omega (arith, div-mul-le_self c.wide-pair.result c.before.wide-each.result))
    (λ c. omega (arith, div-mul-le_self c.wide-pair.result c.before.wide-each.result))
    (λ c. search rules)
    (λ c κs. search rules)
    (λ c. let i = inside (entry c.before) in search rules)
    (λ c. let a = entry c.before.before in omega (arith, inside a, (sound a).paired.list.positive))
    load-requires
    (λ c. let w = c.before.before.before in omega (arith, div-mul-le_self w.wide-pair.result w.before.wide-each.result))
    (λ c. search rules)
    (λ c. search rules)
    (λ c. end_is c.before.before.before)
    first-support-requires
    store-requires
    (λ c. search rules)
    returns
    (λ c. search rules)
    (λ c. let w = c.before.before.before.before.before.before.before.before.before.before.before in omega (arith, pair_is w, in_members (entry w)))
    (λ c κs. let w = c.before.before.before.before.before.before.before.before.before.before.before in let a = entry w in let h = member_below (sound a).laid.framed (sound a).paired a.args.p (in_members a) in subst (λ (q : ℕ). get_or a.args.members.now q 0 < 65) (sym (pair_is w)) (omega arith))
    (λ c. let a = entry (looked c) in omega (arith, id_below c, tuples-few (sound a).laid.framed))
    (λ c κs. let a = entry (looked c) in omega (arith, id_below c, (seeker a).working.space.enough))
    returns-2)
