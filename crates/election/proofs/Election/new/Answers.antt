-- `election::Election::new` meets its contract: the rules in their three parts, the first that refuses deciding.
-- Assumes nothing.
use mathlib.Core.Path.{sym, ◌∙◌}
use Rattle.terms.proofs.Laws.{amount_decides}
use Rattle.election.proofs.Laws.{terms_accepted, accepted_alone}
use Rattle.election.proofs.Election.new.Goals as goal

pub invariant_of-result : goal.invariant_of-result
invariant_of-result c =
    record {
      accepted = accepted_alone _ c.args.existing.0
          (terms_accepted _ _
          (amount_decides _ _ (sym c.in_ok-check.ensures) (sym c.in_ok-rates.ensures.refusal)
          ∙ sym c.in_ok-check_amount.ensures));
      looked_up = c.in_ok-rates.ensures.rates;
    }
