-- Laws of a search whose words are narrowed, for a tuple y or member through member: what is known stays known, and what there is to find stays.
-- From what a narrowing keeps, and the laws of narrowed sets, of ids and of live words.
use mathlib.Core.Path.{◌≡◌, refl, sym, ◌∙◌, ap, subst}
use mathlib.Core.Bool.{Bool, true, false}
use mathlib.Core.Option.{none}
use mathlib.Core.List.{List, [], ◌∷◌, ◌++◌, map, Memᴰ}
use mathlib.Core.Logic.{inl, inr, ⊎_elim}
use Prim.Native.Nat.{ℕ, suc, ◌+◌, ◌-◌, ◌*◌, ◌/◌, ◌%◌, ◌≤◌, ◌<◌}
use native.Mathlib.Omega.{arith}
use lib.ListN.{length, get_or, take, drop, length-map, length-drop, get_or-append}
use lib.Seq.{get_or-drop, get_or-take, drop-cons, length-take-le, length_front}
use Rattle.model.specs.Lists.{from}
use Rattle.model.specs.Network.{Network, size, total, first_id, ids_of, relation_of}
use Rattle.model.specs.Agreement.{agree}
use Rattle.model.specs.TupleSet.{has}
use Rattle.model.specs.LiveWords.{words_for, living, is_set, is_live}
use Rattle.model.specs.Combination.{Combination}
use Rattle.model.specs.Support.{candidates, support_from}
use Rattle.model.proofs.Lists.{all-at, all-intro, from-mem, mem-from, get_d-map-in, Picks, pick, done}
use Rattle.model.proofs.TupleSet.{has-below}
use Rattle.model.proofs.Network.{index-bounds, ids-below}
use Rattle.model.proofs.LiveWords.{living-length, living-has}
use Rattle.model.proofs.Search.{completion-bare}
use Rattle.model.proofs.Support.{candidates-picks}
use Rattle.model.proofs.Narrowing.{Narrower, narrow-all, completion-narrow, support_from-narrow, Enough, completion-enough, support_from-enough}
use Rattle.layout.specs.Starts.{tuple_start}
use Rattle.layout.proofs.SoundStarts.{tuple-count, tuples-few}
use Rattle.narrowing.specs.Narrows.{Later, Others, Narrowed, Bare}
use Rattle.spreading.specs.Spread.{Held, KeepsSupports}
use Rattle.support.specs.Search.{Search, net_of, live_of, id_at, seeker, SoundSearch, chosen_ids, Prefix, span, left, sought}
use Rattle.support.specs.Spent.{MeetsIn}
use Rattle.support.proofs.Chosen.{chosen_of, chosen-candidate}
use Rattle.support.proofs.Walking.{members-apart, few-tuples, member_below, span-inside}
use Rattle.support.proofs.Ends.{sought-first}

-- the search on other words
abbrev pub on_words : Search → List ℕ → Search
on_words Q words = record { lists = Q.lists; words = words; members = Q.members; place = Q.place; own = Q.own; low = Q.low }

-- the members from k on, but the seeking tuple's own, are other relations than the member at i
pub others : (Q : Search) → SoundSearch Q → (i k : ℕ) → i < length Q.members → ((j : ℕ) → Later Q.members Q.place k j → i ≡ j → ⊥) → Others Q.members Q.place k (get_or Q.members i 0)
others Q R i k h apart =
    record {
      few = λ j l. member_below Q R j l.inside;
      other = λ j l e. members-apart Q R i j h l.inside (apart j l) (sym e);
    }

-- A search may go on over fewer words: those of its live tuples that agree with tuple y are all there.
pub record Fewer (Q : Search) (y : ℕ) (words : List ℕ) : Type 0 where
  pub ready : SoundSearch Q
  pub sized : length words ≡ 64
  pub narrower : Narrower (net_of Q) y (live_of Q) (live_of (on_words Q words))

-- ---- Its own words narrowed

-- .. or others, among which the same tuples are live
module _ (Q : Search) (R : SoundSearch Q) (y : ℕ) (before after : List ℕ) (same : (g : ℕ) → g < total (net_of Q) → is_live before g ≡ is_live Q.words g) (W : Narrowed (net_of Q) y before after) where
  id_below : (ws : List ℕ) (g : ℕ) → has (living (total (net_of Q)) ws) g ≡ true → g < total (net_of Q)
  id_below ws g e = subst (λ (n : ℕ). g < n) (living-length (total (net_of Q)) ws) (has-below (living (total (net_of Q)) ws) g e)

  -- an id of the search is live as among these
  lives-as : (g : ℕ) → g < total (net_of Q) → has (live_of Q) g ≡ is_live before g
  lives-as g b = living-has (total (net_of Q)) Q.words g b ∙ sym (same g b)

  keeps : (g : ℕ) → has (live_of Q) g ≡ true → agree (net_of Q) y g ≡ true → has (live_of (on_words Q after)) g ≡ true
  keeps g e a =
      let N = net_of Q in
      let b = id_below Q.words g e in
      let first = first_id N (relation_of N g) in
      let i = index-bounds N g b in
      let is-g : first + (g - first) ≡ g = omega (arith, i.0) in
      living-has (total N) after g b
      ∙ subst (λ (h : ℕ). is_live after h ≡ true) is-g
      (W.keeps (relation_of N g) (g - first) (omega (arith, i.0, i.1)) (ap (agree N y) is-g ∙ a)
      (ap (is_live before) is-g ∙ sym (lives-as g b) ∙ e))

  pub fewer-alike : length after ≡ 64 → Fewer Q y after
  fewer-alike sized =
      let n = total (net_of Q) in
      record {
        ready = R;
        sized = sized;
        narrower =
            record {
              inside = λ g e. let b = id_below after g e in lives-as g b ∙ W.inside g (sym (living-has n after g b) ∙ e);
              keeps = keeps;
              itself = λ e. let b = id_below Q.words y e in living-has n after y b ∙ W.itself ∙ sym (lives-as y b) ∙ e;
            };
      }

pub fewer-words : (Q : Search) → SoundSearch Q → (y : ℕ) (after : List ℕ) → Narrowed (net_of Q) y Q.words after → length after ≡ 64 → Fewer Q y after
fewer-words Q R y after = fewer-alike Q R y Q.words after (λ g b. refl)

-- the words of all tuples put into a room
module _ (Q : Search) (R : SoundSearch Q) (n : ℕ) (is-n : n ≡ words_for (tuple_start Q.lists.starts 64)) where
  -- they are no more than there are, and have the bits of all tuples
  pub put-few : (n ≤ 64) × (total (net_of Q) ≤ 64 * n)
  put-few = let t = tuple-count R.laid.framed in let f = few-tuples Q R in (omega arith, omega arith)

  -- .. the same of which are live there
  pub put-alike : (spare : List ℕ) → length Q.words ≡ 64 → (g : ℕ) → g < total (net_of Q) → is_live (take n Q.words ++ drop n spare) g ≡ is_live Q.words g
  unfolding is_live
  put-alike spare long g b =
      let few = put-few in
      let t : length (take n Q.words) ≡ n = length-take-le n Q.words (omega (arith, few.0, long)) in
      let i : g / 64 < n = omega (arith, few.1) in
      ap (λ (w : ℕ). is_set w (g % 64)) (get_or-append (take n Q.words) (drop n spare) 0 (g / 64) (omega (arith, t, i)) ∙ get_or-take n Q.words (g / 64) 0 i)

  -- narrowed there, they are fewer
  pub fewer-put : (y : ℕ) (spare after : List ℕ) → length Q.words ≡ 64 → Narrowed (net_of Q) y (take n Q.words ++ drop n spare) after → length after ≡ 64 → Fewer Q y after
  fewer-put y spare after long = fewer-alike Q R y (take n Q.words ++ drop n spare) after (put-alike spare long)

  -- the room stays as long
  pub put-long : (spare : List ℕ) → length Q.words ≡ 64 → length spare ≡ 64 → length (take n Q.words ++ drop n spare) ≡ 64
  put-long spare long room = length_front spare (take n Q.words) n (length-take-le n Q.words (omega (arith, put-few.0, long)) ∙ sym (length-take-le n spare (omega (arith, put-few.0, room)))) ∙ room

-- where a member has no live tuple left, there is nothing to find
pub sought-none : (Q : Search) (words : List ℕ) (k : ℕ) (chosen : List ℕ) → Bare (net_of Q) Q.members Q.place k words → sought (on_words Q words) k chosen ≡ none
sought-none Q words k chosen E =
    let N = net_of Q in
    let c = Q.members in
    let s = get_or c E.j 0 in
    let later = map (ids_of N) (drop k c) in
    let long : length later ≡ length c - k = length-map (drop k c) (ids_of N) ∙ length-drop k c in
    let is_at : k + (E.j - k) ≡ E.j = omega (arith, E.later.from-k) in
    let is-s : get_or later (E.j - k) [] ≡ ids_of N s =
    get_d-map-in (ids_of N) (drop k c) (E.j - k) 0 [] (omega (arith, length-drop k c, E.later.from-k, E.later.inside))
    ∙ ap (ids_of N) (get_or-drop k c (E.j - k) 0 ∙ ap (λ (i : ℕ). get_or c i 0) is_at)
    in
    completion-bare N (live_of (on_words Q words)) (seeker Q) Q.low (chosen_ids N c chosen k) later (E.j - k) (omega (arith, long, E.later.from-k, E.later.inside))
    (λ x m.
    let i : Memᴰ x (ids_of N s) = subst (Memᴰ x) is-s m in
    let b = from-mem (first_id N s) (size N s) x i in
    let is_x : first_id N s + (x - first_id N s) ≡ x = omega (arith, b.0) in
    living-has (total N) words x (ids-below N s i)
    ∙ subst (λ (h : ℕ). is_live words h ≡ false) is_x (E.dead (x - first_id N s) (omega (arith, b.0, b.1))))

-- ---- The search over fewer words

module _ {Q : Search} {y : ℕ} {words : List ℕ} (F : Fewer Q y words) where
  abbrev narrowed : Search
  narrowed = on_words Q words

  pub ready-narrowed : SoundSearch narrowed
  ready-narrowed =
      let R = F.ready in
      record {
        laid = R.laid;
        words = rw F.sized (few-tuples Q R);
        members = R.members;
        few = R.few;
        place = R.place;
        own = R.own;
        low-own = R.low-own;
        low-within = R.low-within;
      }

  pub sought-bare : (k : ℕ) (chosen : List ℕ) → Bare (net_of Q) Q.members Q.place k words → sought narrowed k chosen ≡ none
  sought-bare = sought-none Q words

  -- ---- Narrowed for a tuple chosen

  module _ (k : ℕ) (chosen : List ℕ) (m : Memᴰ y (chosen_ids (net_of Q) Q.members chosen k)) where
    pub prefix-narrowed : (resumes : Bool) → Prefix Q k resumes chosen → Prefix narrowed k resumes chosen
    prefix-narrowed resumes B =
        record {
          depth = B.depth;
          within = B.within;
          own = B.own;
          live = narrow-all (net_of Q) y (live_of Q) (live_of narrowed) F.narrower (chosen_ids (net_of Q) Q.members chosen k) m B.pairs B.live;
          pairs = B.pairs;
          seeker = B.seeker;
          at_low = B.at_low;
          past-low = B.past-low;
        }

    pub sought-narrowed : sought narrowed k chosen ≡ sought Q k chosen
    sought-narrowed =
        completion-narrow (net_of Q) y (live_of Q) (live_of narrowed) F.narrower (seeker Q) Q.low (chosen_ids (net_of Q) Q.members chosen k) (map (ids_of (net_of Q)) (drop k Q.members)) m

-- ---- Where the search begins

-- The search may begin over these words: the same is found there, and the seeking tuple lives.
pub record Root (Q : Search) (words : List ℕ) : Type 0 where
  pub sound : SoundSearch (on_words Q words)
  pub sized : length words ≡ 64
  pub same : support_from (net_of Q) (live_of (on_words Q words)) Q.members (seeker Q) Q.low ≡ support_from (net_of Q) (live_of Q) Q.members (seeker Q) Q.low
  pub lives : has (live_of (on_words Q words)) (seeker Q) ≡ true

pub root-narrowed : (Q : Search) (words : List ℕ) → Fewer Q (seeker Q) words → has (live_of Q) (seeker Q) ≡ true → Root Q words
root-narrowed Q words F l =
    record {
      sound = ready-narrowed F;
      sized = F.sized;
      same = support_from-narrow (net_of Q) (seeker Q) (live_of Q) (live_of (on_words Q words)) F.narrower Q.members Q.low;
      lives = F.narrower.itself l;
    }

-- ---- Members narrowed through others

module _ (Q : Search) (words after : List ℕ) (from : ℕ) (long : length after ≡ 64) (K : KeepsSupports (net_of Q) Q.members Q.place from words after) where
  abbrev n : ℕ
  n = total (net_of Q)

  live_below : (ws : List ℕ) (g : ℕ) → has (living n ws) g ≡ true → g < n
  live_below ws g e = subst (λ (k : ℕ). g < k) (living-length n ws) (has-below (living n ws) g e)

  spread-enough : Enough (net_of Q) Q.members (living n words) (living n after)
  spread-enough =
      record {
        inside = λ g e. let b = live_below after g e in living-has n words g b ∙ K.inside g (sym (living-has n after g b) ∙ e);
        keeps = λ t m a l.
            all-intro (has (living n after)) t
            (λ g k.
            let e = all-at (has (living n words)) t l k in
            let b = live_below words g e in
            living-has n after g b ∙ K.keeps t m a (λ h i. let f = all-at (has (living n words)) t l i in sym (living-has n words h (live_below words h f)) ∙ f) g k);
      }

  spread-sound : SoundSearch (on_words Q words) → SoundSearch (on_words Q after)
  spread-sound S =
      record {
        laid = S.laid;
        words = rw long (tuples-few S.laid.framed);
        members = S.members;
        few = S.few;
        place = S.place;
        own = S.own;
        low-own = S.low-own;
        low-within = S.low-within;
      }

  -- a tuple of a member that is held lives still
  spread-held : (j x : ℕ) → j < length Q.members → Held Q.place from j → x < size (net_of Q) (get_or Q.members j 0) → has (living n words) (id_at (net_of Q) Q.members j x) ≡ true → has (living n after) (id_at (net_of Q) Q.members j x) ≡ true
  spread-held j x h o l e =
      let g = id_at (net_of Q) Q.members j x in
      let b = live_below words g e in
      living-has n after g b ∙ K.held j x h o l ∙ sym (living-has n words g b) ∙ e

  pub root-spread : Root Q words → Root Q after
  root-spread R =
      let S = R.sound in
      record {
        sound = spread-sound S;
        sized = long;
        same = support_from-enough (net_of Q) Q.members (living n words) (living n after) spread-enough (seeker Q) Q.low ∙ R.same;
        lives = spread-held Q.place Q.own S.place (inr refl) S.own R.lives;
      }

-- .. at the turn of member k, from which on they are
module _ (Q : Search) (after : List ℕ) (k : ℕ) (long : length after ≡ 64) (K : KeepsSupports (net_of Q) Q.members Q.place k Q.words after) (R : SoundSearch Q) (inside : k < length Q.members) (resumes : Bool) (chosen : List ℕ) (B : Prefix Q k resumes chosen) where
  abbrev N : Network
  N = net_of Q

  abbrev c : Combination
  c = Q.members

  abbrev ids : List ℕ
  ids = chosen_ids N c chosen k

  pub turn-sound : SoundSearch (on_words Q after)
  turn-sound = spread-sound Q Q.words after k long K R

  pub turn-lives : has (live_of Q) (seeker Q) ≡ true → has (live_of (on_words Q after)) (seeker Q) ≡ true
  turn-lives = spread-held Q Q.words after k long K Q.place Q.own R.place (inr refl) R.own

  pub turn-prefix : Prefix (on_words Q after) k resumes chosen
  turn-prefix =
      record {
        depth = B.depth;
        within = B.within;
        own = B.own;
        live =
            all-intro (has (live_of (on_words Q after))) ids
            (λ g m.
            let i = chosen_of N c chosen k m in
            subst (λ (h : ℕ). has (live_of (on_words Q after)) h ≡ true) i.2
            (spread-held Q Q.words after k long K i.0 (get_or chosen i.0 0) (omega (arith, i.1)) (inl i.1) (B.within i.0 i.1)
            (ap (has (live_of Q)) i.2 ∙ all-at (has (live_of Q)) ids B.live m)));
        pairs = B.pairs;
        seeker = B.seeker;
        at_low = B.at_low;
        past-low = B.past-low;
      }

  -- the tuples chosen and one of each later member are a candidate
  goes_on : (t : List ℕ) → Picks (map (ids_of N) (drop k c)) t → Memᴰ (ids ++ t) (candidates N c)
  goes_on = chosen-candidate N c chosen k B.depth B.within

  enough : Enough N c (live_of Q) (live_of (on_words Q after))
  enough = spread-enough Q Q.words after k long K

  pub turn-sought : sought (on_words Q after) k chosen ≡ sought Q k chosen
  turn-sought = completion-enough N c (live_of Q) (live_of (on_words Q after)) enough (seeker Q) Q.low ids (map (ids_of N) (drop k c)) goes_on

  pub turn-left : (g : ℕ) → (span Q k resumes).start ≤ g → left (on_words Q after) k resumes chosen g ≡ left Q k resumes chosen g
  turn-left g l = completion-enough N c (live_of Q) (live_of (on_words Q after)) enough (seeker Q) Q.low ids (from g ((span Q k resumes).end - g) ∷ later) part
    where
      later : List (List ℕ)
      later = map (ids_of N) (drop (suc k) c)

      part : (t : List ℕ) → Picks (from g ((span Q k resumes).end - g) ∷ later) t → Memᴰ (ids ++ t) (candidates N c)
      part t (pick {x} m p) =
          let i = span-inside Q k R inside resumes in
          let b = from-mem g ((span Q k resumes).end - g) x m in
          let r = get_or c k 0 in
          goes_on t (rw (drop-cons c k 0 inside) (pick (mem-from (first_id N r) (size N r) x (omega (arith, i.from_first, l, b.0)) (omega (arith, i.end_is, b.1))) p))

-- ---- Fresh tuples

candidate-below : (N : Network) (c : Combination) {t : List ℕ} {g : ℕ} → Picks (map (ids_of N) c) t → Memᴰ g t → g < total N
candidate-below N [] done m = absurd (mathlib.Core.List.Memᴰ.not-nil m)
candidate-below N (r ∷ c) (pick k p) m =
    ⊎_elim
    (λ e. subst (λ (g : ℕ). g < total N) (sym e) (ids-below N r k))
    (λ h. candidate-below N c p h)
    (mathlib.Core.List.Memᴰ.cases_cons m)

-- among fewer tuples too, every support has a fresh one
pub meets-narrowed : (Q : Search) (words fresh : List ℕ) → ((g : ℕ) → g < total (net_of Q) → is_live words g ≡ true → is_live Q.words g ≡ true) → MeetsIn Q fresh → MeetsIn (on_words Q words) fresh
meets-narrowed Q words fresh inside M t m a l = M t m a (λ g k. inside g (candidate-below (net_of Q) Q.members (candidates-picks (net_of Q) Q.members m) k) (l g k))

-- what there is to find with nothing chosen yet is the first support
pub root-all : (Q : Search) (words : List ℕ) → Root Q words → (chosen : List ℕ) → sought (on_words Q words) 0 chosen ≡ support_from (net_of Q) (live_of Q) Q.members (seeker Q) Q.low
root-all Q words R chosen = sought-first (on_words Q words) chosen ∙ R.same
