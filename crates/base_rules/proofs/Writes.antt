-- A list of candidates that is written from its end back.
use Rattle.std.proofs.Common.{◌≡◌, ℕ, ◌+◌, ◌<◌, ◌≤◌, List, length, ap, ◌∙◌, ⊎_elim, set, arith}
use Rattle.std.proofs.lemmas.List.{get_or-set_same, get_or-set_other, length-set}
use Rattle.std.proofs.lemmas.Bool.{cases_eq}
use Rattle.best.specs.declared.entries.Candidate.{Candidate}
use Rattle.base_rules.specs.Programme.{cost_at}

-- of 32 places, those from b to n cost what f says, and those before them what they did
pub record Written (f : ℕ → ℕ) (n b : ℕ) (old now : List Candidate) : Type 0 where
  pub long : length now ≡ 32
  pub left : (k : ℕ) → k < b → cost_at now k ≡ cost_at old k
  pub done : (k : ℕ) → b ≤ k → k < n → cost_at now k ≡ f k

cost_of : Candidate → ℕ
cost_of x = x.cost

-- one place more
pub write : (f : ℕ → ℕ) (n b i : ℕ) (old now : List Candidate) (x : Candidate) → i ≡ b + 1 → b < 32 → Written f n i old now → x.cost ≡ f b → Written f n b old (set now b x)
unfolding cost_of
write f n b i old now x above inside w e = record {
  long = length-set now b x ∙ w.long;
  left = λ k lt. ap cost_of (get_or-set_other now b k _ _ (omega arith)) ∙ w.left k (omega arith);
  done = λ k le lt. ⊎_elim
      (λ same. rw same (ap cost_of (get_or-set_same now b x _ (omega (arith, w.long))) ∙ e))
      (λ other. ap cost_of (get_or-set_other now b k _ _ other) ∙ w.done k (omega arith) lt)
      (cases_eq k b);
}
