-- What a loop over the relations of a set knows: where it stands, and what the next one is. From the laws of the next relation.
use Rattle.std.proofs.Common.{◌≡◌, ◌+◌, ◌≤◌, ◌<◌, ℕ, Some, None, sym, subst, ◌∙◌, arith}
use Rattle.model.specs.LiveWords.{is_set}
use Rattle.model.proofs.Lists.{First}
use Rattle.enumeration.specs.Reach.{next_in}
use Rattle.enumeration.specs.Sets.{TakesRelation}
use Rattle.enumeration.proofs.Last.{next-first}

-- The relations of the set from `at` on and below count, of those from `start` on: what a loop over them keeps.
pub record Ahead (set start count set' at count' : ℕ) : Type 0 where
  pub same_set : set' ≡ set
  pub same_count : count' ≡ count
  pub from : start ≤ at
  pub to_end : at ≤ count

-- Relation r is the next one from `at` on, and the loop goes on behind it.
pub record NextRelation (set at count r at' : ℕ) : Type 0 where
  pub first : First (is_set set) at count r
  pub below : r < count
  pub behind : at' ≡ r + 1

module _ {set start count set' at count' : ℕ} (ahead : Ahead set start count set' at count') where
  first : First (is_set set) at count (next_in set' at count')
  first =
      let h : at ≤ count' = omega (arith, ahead.to_end, ahead.same_count) in
      subst (λ (w : ℕ). First (is_set w) at count (next_in set' at count')) ahead.same_set
      (subst (λ (e : ℕ). First (is_set set') at e (next_in set' at count')) ahead.same_count (next-first set' at count' h))

  module _ {r set₁ at₁ count₁ : ℕ} (takes : TakesRelation set' at count' (Some r) set₁ at₁ count₁) where
    pub next-relation : NextRelation set at count r at₁
    next-relation =
        record {
          first = subst (First (is_set set) at count) (sym takes.relation.0) first;
          below = omega (arith, takes.relation.1, ahead.same_count);
          behind = takes.relation.2;
        }

    pub next-ahead : Ahead set start count set₁ at₁ count₁
    next-ahead =
        let n = next-relation in
        record {
          same_set = takes.same_set ∙ ahead.same_set;
          same_count = takes.same_count ∙ ahead.same_count;
          from = omega (arith, n.behind, n.first.from-i, ahead.from);
          to_end = omega (arith, n.behind, n.below);
        }

  -- no relation is left
  pub none-left : {set₁ at₁ count₁ : ℕ} → TakesRelation set' at count' None set₁ at₁ count₁ → First (is_set set) at count count
  none-left takes = subst (First (is_set set) at count) (takes.relation ∙ ahead.same_count) first
