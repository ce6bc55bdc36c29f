-- How large the numbers of a quote can be.
-- Assumes nothing.
use Prim.Native.Nat.{ℕ, ◌≤◌}
use native.Mathlib.Omega.{arith}
use borrow.Author.Tests.{eqb-true}
use lib.Dec.{eqb, leb}
use Rattle.common.proofs.Tests.{by_test}
use Rattle.common.proofs.Choice.{either}
use Rattle.scheme.specs.Bounds.{last_quote_refusal}
use Rattle.terms.specs.declared.Terms.{Terms}
use Rattle.terms.specs.Rules.{refusal_of}
use Rattle.terms.proofs.Laws.{refusal_most}
use Rattle.election.proofs.Laws.{terms_accepted, contribution_most}
use Rattle.quotes.specs.Quote.{last_quote_number, quote_refusal, quote_of}
use Rattle.quotes.specs.Bounds.{QuoteBounds}
use Rattle.quotes.proofs.Answers.{quote_passes}

module _ (t : Terms) (existing last : ℕ) where
  quote_refusal_most : quote_refusal t existing last ≤ last_quote_refusal
  unfolding quote_refusal
  quote_refusal_most =
      either (λ (n : ℕ). n ≤ last_quote_refusal) (eqb (refusal_of t existing) 0)
      (either (λ (n : ℕ). n ≤ last_quote_refusal) (leb last_quote_number last) (omega arith) (omega arith))
      (omega (arith, refusal_most t existing))

  pub quote_bounds : QuoteBounds (quote_of t existing last)
  unfolding quote_of
  quote_bounds =
      by_test (eqb (quote_refusal t existing last) 0)
      (λ e.
      let pass = quote_passes t existing last (eqb-true _ _ e) in
      rw e
      record {
        refusal_most = omega arith;
        contribution_most = contribution_most t existing (terms_accepted t existing pass.0);
        next_most = omega (arith, pass.1);
      })
      (λ e. rw e record { refusal_most = quote_refusal_most; contribution_most = omega arith; next_most = omega arith })
