-- Laws of one member's turn in the search: the walk from live tuple to live tuple, and what is known once one tuple more is chosen.
-- From the laws of the walk, of the tuples chosen and of the search, and the law of one tuple more.
use mathlib.Core.Path.{◌≡◌, refl, sym, ◌∙◌, ap, subst}
use mathlib.Core.Bool.{Bool, true, false, ◌&&◌}
use mathlib.Core.Logic.{◌⊎◌, inl, inr}
use mathlib.Core.Option.{Option, none, some, or_else}
use mathlib.Core.List.Memᴰ
use mathlib.Core.List.{List, [], ◌∷◌, ◌++◌, map, Memᴰ}
use Prim.Native.Nat.{ℕ, suc, ◌+◌, ◌-◌, ◌*◌, ◌≤◌, ◌<◌}
use Rattle.std.proofs.Common.{Some, None}
use native.Mathlib.Numerals.{add-one}
use native.Mathlib.Omega.{arith}
use lib.Dec.{eqb}
use lib.ListN.{length, get_or, take, drop, set}
use Rattle.model.specs.Lists.{all}
use Rattle.model.specs.Network.{size, total, first_id, ids_of, relation_of}
use Rattle.model.specs.Agreement.{agree}
use Rattle.model.specs.TupleSet.{has}
use Rattle.model.specs.LiveWords.{is_live, next_live}
use Rattle.model.proofs.Bools.{not-both}
use Rattle.model.proofs.Lists.{here, all-at}
use Rattle.model.proofs.Network.{relation_of-at}
use Rattle.model.proofs.Agreement.{agree-sym}
use Rattle.model.proofs.LiveWords.{living-has, next_live-first}
use Rattle.model.proofs.Search.{completion-dead, completion-clash, reach-none, reach-skip, reach_step, reach_live}
use Rattle.live.specs.Ids.{TakesLive}
use Rattle.live.proofs.Ahead.{Ahead, next-id, next-ahead}
use Rattle.layout.specs.Starts.{tuple_start}
use Rattle.value_index.specs.Index.{Indexed}
use Rattle.support.specs.declared.Found.{Found}
use Rattle.support.specs.declared.Span.{Span}
use Rattle.support.specs.declared.Walked.{Walked}
use Rattle.support.specs.Search.{Search, net_of, live_of, id_at, seeker, SoundSearch, chosen_ids, Prefix, SearchAt, fits, Trial, Trials, FittingAt, FirstFitting, place_behind, onward, span, left, WalkAt, Walks, is_found, answer, sought, AttemptAt, Attempts}
use Rattle.support.proofs.Chosen.{fits_each, fits-none}
use Rattle.support.proofs.Prefix.{ids_more, prefix-next}
use Rattle.support.proofs.Walking.{members-apart, few-tuples, member_below, member-start, member-within, span-inside, walk-whole}

-- ---- The walk from live tuple to live tuple

-- what `span_of` asks
pub span-asks : (Q : Search) (k : ℕ) (R : SoundSearch Q) → k < length Q.members → (get_or Q.members k 0 < 64) × (tuple_start Q.lists.starts (get_or Q.members k 0) + get_or Q.low k 0 < 65535)
span-asks Q k R inside =
    (member_below Q R k inside, omega (arith, member-start Q R k inside, member-within Q R k inside, few-tuples Q R, R.low-within k inside))

-- What is known at the turn of member k, whose relation begins at `first`, and whose walk goes from `begin` to `end`.
pub record Turn (Q : Search) (k : ℕ) (resumes : Bool) (chosen : List ℕ) (first begin end : ℕ) : Type 0 where
  pub ready : SoundSearch Q
  pub begun : Prefix Q k resumes chosen
  pub inside : k < length Q.members
  pub other : k ≡ Q.place → ⊥
  pub sized : length chosen ≡ 4
  pub low-sized : length Q.low ≡ 4
  pub is-first : first ≡ (span Q k resumes).first
  pub is-begin : begin ≡ (span Q k resumes).start
  pub is-end : end ≡ (span Q k resumes).end

pub turn_on : {Q : Search} {index : List ℕ} {k : ℕ} {resumes : Bool} {chosen : List ℕ} → SearchAt Q index k resumes chosen → length chosen ≡ 4 → length Q.low ≡ 4 → (s : Span) → s ≡ span Q k resumes → Turn Q k resumes chosen s.first s.start s.end
turn_on A sized low-sized s e =
    record {
      ready = A.seeking.sound;
      begun = A.prefix;
      inside = A.inside;
      other = A.other;
      sized = sized;
      low-sized = low-sized;
      is-first = ap (λ (s : Span). s.first) e;
      is-begin = ap (λ (s : Span). s.start) e;
      is-end = ap (λ (s : Span). s.end) e;
    }

-- the same where the walk begins at another id
pub turn_at : {Q : Search} {index : List ℕ} {k : ℕ} {resumes : Bool} {chosen : List ℕ} {first end : ℕ} → SearchAt Q index k resumes chosen → length chosen ≡ 4 → length Q.low ≡ 4 → first ≡ (span Q k resumes).first → end ≡ (span Q k resumes).end → Turn Q k resumes chosen first (span Q k resumes).start end
turn_at A sized low-sized f e =
    record {
      ready = A.seeking.sound;
      begun = A.prefix;
      inside = A.inside;
      other = A.other;
      sized = sized;
      low-sized = low-sized;
      is-first = f;
      is-begin = refl;
      is-end = e;
    }

-- .. or one of its tuples is tried
pub turn_tried : {Q : Search} {index : List ℕ} {k : ℕ} {resumes : Bool} {chosen : List ℕ} {x : ℕ} → AttemptAt Q index k resumes chosen x → length chosen ≡ 4 → length Q.low ≡ 4 → Turn Q k resumes chosen (span Q k resumes).first (span Q k resumes).start (span Q k resumes).end
turn_tried A sized low-sized = turn_at A.turn sized low-sized refl refl

-- A loop over the live ids from `from` on has passed those before `at`: what is left to find is all there is to find.
pub record Passed (Q : Search) (k : ℕ) (resumes : Bool) (chosen : List ℕ) (from end : ℕ) (words : List ℕ) (at end' : ℕ) : Type 0 where
  pub ahead : Ahead Q.words from end words at end'
  pub rest : left Q k resumes chosen at ≡ sought Q k chosen

module _ {Q : Search} {k : ℕ} {resumes : Bool} {chosen : List ℕ} {first begin end : ℕ} (T : Turn Q k resumes chosen first begin end) where
  abbrev R : SoundSearch Q
  R = T.ready

  abbrev B : Prefix Q k resumes chosen
  B = T.begun

  abbrev inside : k < length Q.members
  inside = T.inside

  abbrev stop : ℕ
  stop = (span Q k resumes).end

  abbrev ids : List ℕ
  ids = chosen_ids (net_of Q) Q.members chosen k

  abbrev later : List (List ℕ)
  later = map (ids_of (net_of Q)) (drop (suc k) Q.members)

  pub first-id : first ≡ first_id (net_of Q) (get_or Q.members k 0)
  first-id = T.is-first ∙ member-start Q R k inside

  stop-total : stop ≤ total (net_of Q)
  stop-total = let i = span-inside Q k R inside resumes in omega (arith, i.end_is, member-within Q R k inside)

  -- what `next` asks
  pub walk-asks : (g : ℕ) → begin ≤ g → g ≤ end → (g ≤ end) × (end ≤ 64 * length Q.words) × (end ≤ 4096)
  walk-asks g l h = let t = stop-total in let f = few-tuples Q R in (h, omega (arith, R.words), omega arith)

  pub walk-forward : begin ≤ end
  walk-forward = let i = span-inside Q k R inside resumes in omega (arith, i.forward)

  -- the next live id from i on
  pub come-live : (i : ℕ) → (span Q k resumes).start ≤ i → i ≤ stop → left Q k resumes chosen i ≡ sought Q k chosen → WalkAt Q k resumes chosen (next_live Q.words i end)
  come-live i l h e =
      let f = next_live-first Q.words i stop h in
      rw T.is-end
      (record {
        from_start = omega (arith, f.from-i);
        to_end = f.to_end;
        lives = f.passes;
        rest = sym (reach_live (net_of Q) Q.words (seeker Q) Q.low ids later i stop h stop-total) ∙ e;
      })

  pub come-first : WalkAt Q k resumes chosen (next_live Q.words begin end)
  come-first =
      let i = span-inside Q k R inside resumes in
      rw T.is-begin (come-live (span Q k resumes).start (omega arith) i.forward (walk-whole Q k R inside resumes chosen B T.sized T.low-sized))

  pub come-from : (g : ℕ) → WalkAt Q k resumes chosen g → (first ≤ g) × (begin ≤ g)
  come-from g C = let i = span-inside Q k R inside resumes in let f = first-id in (omega (arith, i.from_first, C.from_start), omega (arith, C.from_start))

  pub come-none : (g : ℕ) → WalkAt Q k resumes chosen g → end ≤ g → sought Q k chosen ≡ none
  come-none g C h = sym C.rest ∙ reach-none (net_of Q) (live_of Q) (seeker Q) Q.low ids later g stop (omega arith)

  -- a walk that found something, or came to its end, found what there is to find
  pub come-walked : (w : Walked) → Walks Q k resumes chosen w → (is_found w.kind ≡ true) ⊎ ((is_found w.kind ≡ false) × (end ≤ w.at)) → answer (is_found w.kind) (take (length Q.members) w.tuples) ≡ sought Q k chosen
  come-walked w W (inl e) = ap (λ (b : Bool). answer b (take (length Q.members) w.tuples)) e ∙ sym (W.found e)
  come-walked w W (inr h) = ap (λ (b : Bool). answer b (take (length Q.members) w.tuples)) h.0 ∙ sym (come-none w.at (W.on h.0) h.1)

  module _ (g : ℕ) (C : WalkAt Q k resumes chosen g) (h : g < end) where
    before-stop : g < stop
    before-stop = omega arith

    pub come-found : (t : List ℕ) → onward Q k chosen g ≡ some t → sought Q k chosen ≡ some t
    unfolding or_else
    come-found t e =
        sym C.rest
        ∙ reach_step (net_of Q) (live_of Q) (seeker Q) Q.low ids later g stop before-stop
        ∙ ap (λ (o : Option (List ℕ)). or_else o (left Q k resumes chosen (suc g))) e

    -- what is left to find behind it, if it leads to nothing
    pub come-past : onward Q k chosen g ≡ none → left Q k resumes chosen (g + 1) ≡ sought Q k chosen
    unfolding or_else
    come-past e =
        rw add-one
        (sym (ap (λ (o : Option (List ℕ)). or_else o (left Q k resumes chosen (suc g))) e)
        ∙ sym (reach_step (net_of Q) (live_of Q) (seeker Q) Q.low ids later g stop before-stop)
        ∙ C.rest)

    pub come-next : onward Q k chosen g ≡ none → WalkAt Q k resumes chosen (next_live Q.words (g + 1) end)
    come-next e = let b = before-stop in come-live (g + 1) (omega (arith, C.from_start)) (omega arith) (come-past e)

    -- ---- Its tuple tried

    pub id_is : (span Q k resumes).first + (g - first) ≡ g
    id_is = let f = (come-from g C).0 in omega (arith, f, T.is-first)

    pub come-attempt : {index : List ℕ} → SearchAt Q index k resumes chosen → place_behind Q.place k < length Q.members → AttemptAt Q index k resumes chosen (g - first)
    come-attempt A further =
        record {
          turn = A;
          from_start = omega (arith, id_is, C.from_start);
          to_end = omega (arith, id_is, before-stop);
          lives = subst (λ (n : ℕ). is_live Q.words n ≡ true) (sym id_is) (C.lives before-stop);
          further = further;
        }

    module _ (f : Found) (tried : Attempts Q k chosen (g - first) f) where
      tried-is : (b : Bool) → is_found f.kind ≡ b → onward Q k chosen g ≡ answer b (take (length Q.members) f.tuples)
      tried-is b e = ap (onward Q k chosen) (sym id_is) ∙ sym tried ∙ ap (λ (b : Bool). answer b (take (length Q.members) f.tuples)) e

      -- it leads to a support
      pub walks-found : is_found f.kind ≡ true → Walks Q k resumes chosen (record { tuples = f.tuples; kind = f.kind; at = g })
      walks-found e = record { found = λ _. come-found (take (length Q.members) f.tuples) (tried-is true e); on = λ d. absurd (not-both e d) }

      -- .. or to nothing
      pub tried-none : is_found f.kind ≡ false → onward Q k chosen g ≡ none
      tried-none = tried-is false

  -- ---- A loop over the live ids

  module _ {from : ℕ} (C : WalkAt Q k resumes chosen from) where
    pub passed-none : {ws : List ℕ} {at end' : ℕ} → ws ≡ Q.words → at ≡ from → end' ≡ end → Passed Q k resumes chosen from end ws at end'
    passed-none w a e =
        record {
          ahead = record { same_words = w; same_end = e; from = omega (arith, a); to_end = omega (arith, a, C.to_end, T.is-end) };
          rest = rw a C.rest;
        }

    module _ {ws : List ℕ} {at end' : ℕ} (P : Passed Q k resumes chosen from end ws at end') where
      next-is : next_live ws at end' ≡ next_live Q.words at end
      next-is = rw (P.ahead.same_words, P.ahead.same_end) refl

      come-on : WalkAt Q k resumes chosen (next_live Q.words at end)
      come-on = come-live at (omega (arith, P.ahead.from, C.from_start)) (omega (arith, P.ahead.to_end, T.is-end)) P.rest

      -- the id taken
      module _ {g : ℕ} {ws' : List ℕ} {at' end'' : ℕ} (takes : TakesLive ws at end' (Some g) ws' at' end'') where
        pub come-taken : WalkAt Q k resumes chosen g
        come-taken = subst (WalkAt Q k resumes chosen) (sym (takes.id.0 ∙ next-is)) come-on

        pub passed-more : onward Q k chosen g ≡ none → Passed Q k resumes chosen from end ws' at' end''
        passed-more e =
            let n = next-id P.ahead takes in
            record { ahead = next-ahead P.ahead takes; rest = rw n.behind (come-past g come-taken n.below e) }

      -- none is left
      pub come-end : {ws' : List ℕ} {at' end'' : ℕ} → TakesLive ws at end' None ws' at' end'' → WalkAt Q k resumes chosen end
      come-end takes = subst (WalkAt Q k resumes chosen) (sym next-is ∙ takes.id ∙ P.ahead.same_end) come-on

  -- what the tests of its tuples ask
  pub trials : Trials Q.lists Q.members Q.place Q.own k chosen
  trials =
      record {
        laid = R.laid;
        inside = inside;
        few = R.few;
        relation = member_below Q R k inside;
        each =
            λ x h.
            record {
              laid = R.laid;
              inside = inside;
              few = R.few;
              place_in = R.place;
              own_in = R.own;
              index = h;
              within = B.within;
              own-chosen = B.own;
            };
      }

  module _ (x : ℕ) (from : (span Q k resumes).start ≤ first + x) (h : first + x < end) where
    in-walk : first + x < stop
    in-walk = omega arith

    -- ---- The tuple tried

    pub index_below : x < size (net_of Q) (get_or Q.members k 0)
    index_below = let i = span-inside Q k R inside resumes in let f = first-id in omega (arith, i.end_is)

    id-back : id_at (net_of Q) Q.members k x ≡ first + x
    id-back = ap (λ (n : ℕ). n + x) (sym first-id)

    pub trial : Trial Q.lists Q.members Q.place Q.own k chosen x
    trial = trials.each x index_below

    -- it is another tuple than the seeking one
    pub id_other : seeker Q ≡ first + x → ⊥
    id_other e =
        members-apart Q R k Q.place inside R.place T.other
        (sym (relation_of-at (net_of Q) (get_or Q.members k 0) x index_below)
        ∙ ap (relation_of (net_of Q)) (id-back ∙ sym e)
        ∙ relation_of-at (net_of Q) (get_or Q.members Q.place 0) Q.own R.own)

    -- where the search resumes, its index is not below the bound's
    index-low : resumes ≡ true → get_or Q.low k 0 ≤ x
    index-low e =
        let l : tuple_start Q.lists.starts (get_or Q.members k 0) + get_or Q.low k 0 ≤ first + x = rw e at from in
        omega (arith, T.is-first)

    abbrev fit : Bool
    fit = fits (net_of Q) Q.members Q.place Q.own k chosen x

    pub come-clash : fit ≡ false → onward Q k chosen (first + x) ≡ none
    come-clash e =
        completion-clash (net_of Q) (live_of Q) (seeker Q) Q.low ids (first + x) later id_other
        (ap (λ (y : ℕ). all (λ (z : ℕ). agree (net_of Q) z y) (seeker Q ∷ ids)) (sym id-back) ∙ fits-none (net_of Q) Q.members Q.place Q.own k chosen x e)

    -- ---- The tuple chosen

    -- at the next member's turn, what there is to find is what is found onward
    pub onward-more : sought Q (k + 1) (set chosen k x) ≡ onward Q k chosen (first + x)
    onward-more =
        rw (add-one, ids_more R B inside T.sized T.low-sized x)
        (ap (onward Q k chosen) id-back)

    -- it agrees with the seeking tuple and with each chosen before
    agrees-fixed : fit ≡ true → (y : ℕ) → Memᴰ y (seeker Q ∷ ids) → agree (net_of Q) y (id_at (net_of Q) Q.members k x) ≡ true
    agrees-fixed e y m =
        all-at (λ (y : ℕ). agree (net_of Q) y (id_at (net_of Q) Q.members k x)) (seeker Q ∷ ids) (fits_each (net_of Q) Q.members Q.place Q.own k chosen x e) m

    pub agrees-own : fit ≡ true → agree (net_of Q) (id_at (net_of Q) Q.members k x) (seeker Q) ≡ true
    agrees-own e = agree-sym (net_of Q) (id_at (net_of Q) Q.members k x) (seeker Q) ∙ agrees-fixed e (seeker Q) here

    pub come-more : is_live Q.words (first + x) ≡ true → fit ≡ true → Prefix Q (k + 1) (resumes && eqb x (get_or Q.low k 0)) (set chosen k x)
    come-more l e =
        rw add-one
        (prefix-next R B inside T.sized T.low-sized x
        (record {
          below = index_below;
          own = λ q. absurd (T.other q);
          lives = ap (has (live_of Q)) id-back ∙ living-has (total (net_of Q)) Q.words (first + x) (omega (arith, stop-total, in-walk)) ∙ l;
          agrees = λ y m. agrees-fixed e y (Memᴰ.tail m);
          agrees-seeker = λ _. agrees-fixed e (seeker Q) here;
          low = index-low;
        }))

  -- ---- The first tuple that fits

  -- what the search for it asks
  pub fitting-at : (index : List ℕ) → Indexed (net_of Q) index → (by x : ℕ) → by < length Q.members → x < size (net_of Q) (get_or Q.members by 0) → ((by ≡ Q.place) × (x ≡ Q.own)) ⊎ ((by < k) × (x ≡ get_or chosen by 0)) → FittingAt Q.lists index Q.members Q.place Q.own k chosen begin by x
  fitting-at index indexed by x h l fixed =
      let i = span-inside Q k R inside resumes in
      record {
        trials = trials;
        indexed = indexed;
        from_first = omega (arith, i.from_first, T.is-begin);
        to_end = omega (arith, i.forward, i.end_is, T.is-begin);
        by-inside = h;
        by-own = l;
        fixed = fixed;
      }

  module _ (g : ℕ) (F : FirstFitting (net_of Q) Q.members Q.place Q.own k chosen Q.words begin g) where
    -- a tuple before it leads to nothing
    nowhere-before : (x : ℕ) → ((span Q k resumes).start ≤ x) × (x < g) → onward Q k chosen x ≡ none
    nowhere-before x h = go (is_live Q.words x) refl
      where
        from_first : first ≤ x
        from_first = let i = span-inside Q k R inside resumes in omega (arith, i.from_first, first-id, h.0)

        below-stop : x < stop
        below-stop = let i = span-inside Q k R inside resumes in omega (arith, i.end_is, F.comes.to_end, h.1)

        is_x : first + (x - first) ≡ x
        is_x = omega (arith, from_first)

        go : (b : Bool) → is_live Q.words x ≡ b → onward Q k chosen x ≡ none
        go true l =
            subst (λ (y : ℕ). onward Q k chosen y ≡ none) is_x
            (come-clash (x - first) (omega (arith, is_x, h.0)) (omega (arith, is_x, below-stop, T.is-end))
            (subst (λ (n : ℕ). fits (net_of Q) Q.members Q.place Q.own k chosen (x - n) ≡ false) (sym first-id) (F.none_before x (omega (arith, h.0, T.is-begin)) h.1 l)))
        go false l =
            completion-dead (net_of Q) (live_of Q) (seeker Q) Q.low (ids ++ (x ∷ [])) later (Memᴰ.append_right ids here)
            (living-has (total (net_of Q)) Q.words x (omega (arith, below-stop, stop-total)) ∙ l)

    -- the walk has come to it
    pub come-fitting : WalkAt Q k resumes chosen g
    come-fitting =
        let i = span-inside Q k R inside resumes in
        let whole = walk-whole Q k R inside resumes chosen B T.sized T.low-sized in
        record {
          from_start = omega (arith, F.from_on, T.is-begin);
          to_end = omega (arith, i.end_is, F.comes.to_end);
          lives = λ h. F.comes.lives (omega (arith, i.end_is));
          rest = sym (reach-skip (net_of Q) (live_of Q) (seeker Q) Q.low ids later (span Q k resumes).start g stop (omega (arith, F.from_on, T.is-begin)) (omega (arith, i.end_is, F.comes.to_end)) nowhere-before) ∙ whole;
        }

    pub fitting-is : first + (g - first) ≡ g
    fitting-is = let i = span-inside Q k R inside resumes in omega (arith, i.from_first, first-id, F.from_on, T.is-begin)

    pub fitting-fits : g < end → fits (net_of Q) Q.members Q.place Q.own k chosen (g - first) ≡ true
    fitting-fits h =
        let i = span-inside Q k R inside resumes in
        ap (λ (n : ℕ). fits (net_of Q) Q.members Q.place Q.own k chosen (g - n)) first-id ∙ F.fitting (omega (arith, h, i.end_is, T.is-end))
