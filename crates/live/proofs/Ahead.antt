-- What a loop over live ids knows: where the ids stand, and what the next one is.
-- From the laws of the next live id.
use Rattle.std.proofs.Common.{◌≡◌, ◌+◌, ◌≤◌, ◌<◌, List, ℕ, true, false, Some, None, sym, subst, ◌∙◌, arith}
use Rattle.model.specs.LiveWords.{is_live, next_live}
use Rattle.model.proofs.Lists.{First}
use Rattle.model.proofs.LiveWords.{next_live-first}
use Rattle.live.specs.Ids.{TakesLive}

-- The live ids from `at` on and below `end`, of those from `start` on: what a loop over them keeps.
pub record Ahead (words : List ℕ) (start end : ℕ) (words' : List ℕ) (at end' : ℕ) : Type 0 where
  pub same_words : words' ≡ words
  pub same_end : end' ≡ end
  pub from : start ≤ at
  pub to_end : at ≤ end

-- Id g is the next live one from `at` on, and the ids go on behind it.
pub record NextLive (words : List ℕ) (end at g at' : ℕ) : Type 0 where
  pub from : at ≤ g
  pub below : g < end
  pub live : is_live words g ≡ true
  pub none_before : (i : ℕ) → at ≤ i → i < g → is_live words i ≡ false
  pub behind : at' ≡ g + 1

module _ {words : List ℕ} {start end : ℕ} {words' : List ℕ} {at end' : ℕ} (ahead : Ahead words start end words' at end') where
  first : First (is_live words) at end (next_live words' at end')
  first =
      let h : at ≤ end' = omega (arith, ahead.to_end, ahead.same_end) in
      subst (λ (ws : List ℕ). First (is_live ws) at end (next_live words' at end')) ahead.same_words
      (subst (λ (e : ℕ). First (is_live words') at e (next_live words' at end')) ahead.same_end (next_live-first words' at end' h))

  module _ {g : ℕ} {words₁ : List ℕ} {at₁ end₁ : ℕ} (takes : TakesLive words' at end' (Some g) words₁ at₁ end₁) where
    pub next-id : NextLive words end at g at₁
    next-id =
        let f : First (is_live words) at end g = subst (First (is_live words) at end) (sym takes.id.0) first in
        let below : g < end = omega (arith, takes.id.1, ahead.same_end) in
        record { from = f.from-i; below = below; live = f.passes below; none_before = f.none_before; behind = takes.id.2 }

    pub next-ahead : Ahead words start end words₁ at₁ end₁
    next-ahead =
        let n = next-id in
        record {
          same_words = takes.same_words ∙ ahead.same_words;
          same_end = takes.same_end ∙ ahead.same_end;
          from = omega (arith, n.behind, n.from, ahead.from);
          to_end = omega (arith, n.behind, n.below);
        }

  -- no live id is left
  pub none-left : {words₁ : List ℕ} {at₁ end₁ : ℕ} → TakesLive words' at end' None words₁ at₁ end₁ → (i : ℕ) → at ≤ i → i < end → is_live words i ≡ false
  none-left takes i low high = first.none_before i low (omega (arith, takes.id, ahead.same_end))
