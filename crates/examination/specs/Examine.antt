-- Not rules: what Settle, Schedule and the pay-off go by, as the code finds it once.
-- Assumes nothing.
use Rattle.std.specs.Prelude.{List, ◌≡◌, ℕ, ◌<◌}
use Rattle.scheme.specs.Scheme.{open_months}
use Rattle.terms.specs.declared.Terms.{Terms}
use Rattle.election.specs.declared.TableRates.{TableRates}
use Rattle.election.specs.LookedUp.{rates_of}
use Rattle.election.specs.TermsAccepted.{TermsAccepted}
use Rattle.marks.specs.Counts.{payments_of}
use Rattle.marks.specs.Numbers.{status_number}
use Rattle.marks.specs.Status.{status_of}
use Rattle.examination.specs.declared.Examined.{Examined}

-- what is known of an examination e of terms and marks that are not refused; its election holds that the terms are accepted, with the
-- rates that they go by
pub record ExaminationOf (t : Terms) (marks : List ℕ) (e : Examined) : Type 0 where
  pub terms : e.election.terms ≡ t
  pub status : status_number e.status ≡ status_of open_months t.term marks
  pub paid : e.payments ≡ payments_of t.term marks

-- accepted terms of a monthly contract, with the rates that they go by
pub record Monthly (t : Terms) (rates : TableRates) : Type 0 where
  pub passes : TermsAccepted t 0
  pub some_years : 0 < t.term
  pub rates_are : rates ≡ rates_of t
