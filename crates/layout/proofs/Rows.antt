-- The ids of the tuples of a pair's member, and the walk from one live id to the next.
-- From the laws of sound starts and of pairs, and the model's law of the next live id.
use mathlib.Core.Path.{◌≡◌, ◌∙◌}
use mathlib.Core.List.{List}
use Prim.Native.Nat.{ℕ, ◌+◌, ◌-◌, ◌*◌, ◌≤◌, ◌<◌}
use native.Mathlib.Omega.{arith}
use lib.ListN.{length}
use Rattle.model.specs.Limits.{word_bits}
use Rattle.model.specs.Network.{total, first_id, tuples_in}
use Rattle.model.specs.Combination.{pair_member}
use Rattle.model.specs.LiveWords.{next_live}
use Rattle.model.proofs.Network.{before-within}
use Rattle.model.proofs.LiveWords.{next_live-first}
use Rattle.layout.specs.Starts.{tuple_start}
use Rattle.layout.specs.Setting.{Setting, network, Sound}
use Rattle.layout.specs.Pairs.{size_of, tuple_id}
use Rattle.layout.proofs.SoundStarts.{tuples-few, tuple-start, tuple-end}
use Rattle.layout.proofs.Pairs.{member-exists, member_below}

-- The ids of the tuples of pair p's member: from `first` on and below `end`.
pub record Row (G : Setting) (p first end : ℕ) : Type 0 where
  pub sound : Sound G
  pub pair : p < length G.members
  pub is-first : first ≡ first_id (network G) (pair_member G.members p)
  pub is-end : end ≡ first + size_of G p

pub row-of : {G : Setting} → Sound G → (p first end : ℕ) → p < length G.members → first ≡ tuple_start G.lists.starts (pair_member G.members p) → end ≡ tuple_start G.lists.starts (pair_member G.members p + 1) → Row G p first end
row-of {G} sound p first end h es ee =
    let b = member_below sound.laid.framed sound.paired p h in
    let s = es ∙ tuple-start sound.laid.framed (pair_member G.members p) (omega arith) in
    record {
      sound = sound;
      pair = h;
      is-first = s;
      is-end = omega (arith, ee, s, tuple-end sound.laid.framed (pair_member G.members p) b);
    }

module _ {G : Setting} {p first end : ℕ} (row : Row G p first end) where
  pub row-total : end ≤ total (network G)
  row-total = omega (arith, row.is-first, row.is-end, before-within tuples_in (network G).relations (pair_member G.members p) (member-exists row.sound.laid.framed row.sound.paired p row.pair))

  -- what `next` asks
  pub row-asks : (words : List ℕ) (g : ℕ) → total (network G) ≤ word_bits * length words → g ≤ end → (g ≤ end) × (end ≤ 64 * length words) × (end ≤ 4096)
  row-asks words g enough h = let t = row-total in (h, omega arith, omega (arith, tuples-few row.sound.laid.framed))

  module _ {g : ℕ} (from_First : first ≤ g) where
    -- the index of an id
    pub row-index : g < end → g - first < size_of G p
    row-index h = omega (arith, row.is-end)

    pub row-id : tuple_id G p (g - first) ≡ g
    row-id = omega (arith, row.is-first)

-- the walk comes nearer to the end
pub next-ahead : (words : List ℕ) {g end : ℕ} → g < end → (g < next_live words (g + 1) end) × (next_live words (g + 1) end ≤ end)
next-ahead words {g} {end} h = let f = next_live-first words (g + 1) end (omega arith) in (omega (arith, f.from-i), f.to_end)
