-- What holds where nothing refuses a quote: its terms pass and a number is left. What is quoted has a contribution of a penny or more, so its
-- numbers are never those of a refusal.
-- Assumes nothing.
use mathlib.Core.Path.{◌≡◌, refl, sym, ◌∙◌}
use Prim.Native.Nat.{ℕ, ◌≤◌, ◌<◌}
use native.Mathlib.Omega.{arith}
use borrow.Author.Tests.{eq-eqb, leb-false}
use lib.Dec.{leb}
use Rattle.common.specs.Choice.{pick}
use Rattle.common.proofs.Choice.{not_first, chosen_number, both_pass}
use Rattle.terms.specs.declared.Terms.{Terms}
use Rattle.terms.specs.Rules.{refusal_of}
use Rattle.election.proofs.Laws.{terms_accepted, contribution_least}
use Rattle.quotes.specs.Quote.{QuoteNumbers, last_quote_number, quote_refusal, quote_of}

module _ (t : Terms) (existing last : ℕ) where
  quote_refusal_lem : (quote_of t existing last).refusal ≡ quote_refusal t existing last
  unfolding quote_of
  quote_refusal_lem = chosen_number (λ (n : QuoteNumbers). n.refusal) (quote_refusal t existing last) _ _ refl refl

  pub quote_passes : quote_refusal t existing last ≡ 0 → (refusal_of t existing ≡ 0) × (last < last_quote_number)
  unfolding quote_refusal
  quote_passes z =
      let both = both_pass (refusal_of t existing) (pick (leb last_quote_number last) 9 0) z in
      let number = not_first (λ (n : ℕ). n ≡ 0) (leb last_quote_number last) 9 0 (λ nine. omega arith) both.1 in
      (both.0, leb-false _ _ number.0)

  pub quote_contribution_least : (quote_of t existing last).refusal ≡ 0 → 1 ≤ (quote_of t existing last).contribution
  unfolding quote_of
  quote_contribution_least z =
      let none : quote_refusal t existing last ≡ 0 = sym quote_refusal_lem ∙ z in
      rw (eq-eqb (quote_refusal t existing last) 0 none) (contribution_least t existing (terms_accepted t existing (quote_passes none).0))
