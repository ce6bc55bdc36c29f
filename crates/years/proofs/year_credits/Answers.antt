-- `years::year_credits` meets its contract. The loop's invariant: below n the row has the years' credits, and from n on it has 0.
-- Assumes nothing.
use mathlib.Core.List.{List}
use mathlib.Core.Path.{◌≡◌, sym, ap, ◌∙◌}
use Prim.Native.Nat.{ℕ, ◌+◌, ◌*◌, ◌-◌, ◌≤◌, ◌<◌, ◌^◌}
use native.Mathlib.Nat.{mul-le-mul_right}
use native.Mathlib.Omega.{arith}
use borrow.Author.Tests.{ltb-true, ltb-false}
use lib.Dec.{ltb}
use lib.ListN.{length, set, get_or, length-set}
use lib.Seq.{get_or-set_other}
use Rattle.common.proofs.Tests.{by_test}
use Rattle.common.proofs.Table.{is_tabulate, table_more}
use Rattle.rounding.specs.Nearest.{nearest}
use Rattle.rounding.proofs.InForce.{nearest_within_half}
use Rattle.money.specs.declared.ContributionPence.{ContributionPence}
use Rattle.money.specs.declared.PensionPence.{PensionPence}
use Rattle.scheme.specs.Scheme.{pounds_in_pence, longest_term, row_places}
use Rattle.money.specs.Money.{pension}
use Rattle.money.specs.Contribution.{contribution}
use Rattle.rates.specs.Rates.{rate_of}
use Rattle.rates.proofs.Laws.{rate_printed}
use Rattle.years.specs.Years.{Purchase, own_contribution, year_credit, year_credits, FallingRates}
use Rattle.terms.specs.declared.Terms.{Terms}
use Rattle.years.specs.Elected.{purchase_in}
use Rattle.years.proofs.Elected.{rates_fall}
use Rattle.years.proofs.Years.{year_within, year_past, own_most, years_most}
use Rattle.years.proofs.year_credits.Goals.{After-monthly_rate-yearly, After-year_credit}
use Rattle.years.proofs.year_credits.Goals as goal

-- what a turn of the loop knows: the contribution, the unit and the rate of its year
record Turn (p : Purchase) (n : ℕ) (own : ContributionPence) (unit : PensionPence) (rate : ℕ) : Type 0 where
  paid : own ≡ contribution (own_contribution p)
  sold : unit ≡ pension p.unit
  rated : rate ≡ p.rate n
  low : 0 < n
  within : n ≤ p.term

module _ (p : Purchase) (n : ℕ) (own : ContributionPence) (unit : PensionPence) (rate : ℕ) (t : Turn p n own unit rate) where
  year_fits : FallingRates p → p.units * p.unit < 2 ^ 32 → (0 < rate) × (own.0 * unit.0 ≤ (2 ^ 32 - 1) * rate)
  year_fits falling fits = rw (t.paid, t.sold, t.rated) (
    falling.positive n t.low t.within,
    omega (
      arith,
      own_most p falling n t.low t.within,
      mul-le-mul_right {m = p.units * p.unit} {n = 2 ^ 32 - 1} (p.rate n) (omega (arith, fits)),
    ),
  )

  this_year : (r : ℕ) → r ≡ nearest (own.0 * unit.0) rate → r ≡ year_credit nearest p n
  this_year r h = h ∙ rw (t.paid, t.sold, t.rated) (sym (year_within nearest p n t.low t.within))

-- a row that is filled up to the term is the row of credits
filled : (p : Purchase) (years : List ℕ) (n : ℕ) → p.term < n → length years ≡ row_places → ((k : ℕ) → k < n → get_or years k 0 ≡ year_credit nearest p k)
    → ((k : ℕ) → n ≤ k → k < row_places → get_or years k 0 ≡ 0) → years ≡ year_credits nearest p
unfolding year_credits
filled p years n past len below above =
    is_tabulate years (year_credit nearest p) 0 row_places len λ k l.
    by_test (ltb k n) (λ h. below k (ltb-true k n h) ∙ ap (year_credit nearest p) (omega arith))
    (λ h. above k (ltb-false k n h) l ∙ sym (year_past nearest p (0 + k) (omega (arith, ltb-false k n h))))

-- the contract as the code has it, and that its rates fall
module _ (t : Terms) (pension_age rate : ℕ) (priced : rate ≡ rate_of t.option pension_age t.age t.term) (some : 0 < rate) where
  abbrev bought : Purchase
  bought = purchase_in t pension_age

  there : 0 < bought.rate bought.term
  there = rw priced at some

  short : bought.term ≤ longest_term
  short = (rate_printed _ _ _ _ there).term_high

  falling : FallingRates bought
  falling = rates_fall _ _ _ _ _ there

  own_paid : (own : ContributionPence) → own ≡ contribution (bought.units * rate) → own ≡ contribution (own_contribution bought)
  own_paid own e = rw (← priced) e

-- a turn: year n, from 1 to the term
turn : (c : After-monthly_rate-yearly) → Turn (purchase_in c.args.t c.args.pension_age) c.loop-n.n c.of_units-own.result c.of_pounds-unit.result c.monthly_rate-yearly.result
turn c =
    let a = c.args in
    record {
      paid = own_paid a.t a.pension_age a.rate c.requires.rate_value c.requires.rate_nonzero.0 _ (rw c.units.ensures at c.of_units-own.ensures);
      sold = c.of_pounds-unit.ensures;
      rated = c.monthly_rate-yearly.ensures;
      low = omega arith;
      within = omega arith;
    }

pub year_credit-requires : goal.year_credit-requires
year_credit-requires c =
    let a = c.args in
    year_fits _ _ _ _ _ (turn (goal.at.year_credit-requires c).After-monthly_rate-yearly)
    (falling a.t a.pension_age a.rate c.requires.rate_value c.requires.rate_nonzero.0) (omega (arith, c.requires.rate_nonzero.1))

-- the row after a turn
one_year : (c : After-year_credit)
    → Turn (purchase_in c.args.t c.args.pension_age) c.loop-n.n c.of_units-own.result c.of_pounds-unit.result c.monthly_rate-yearly.result
    → let years = set c.loop-n.years c.loop-n.n c.year_credit.result in
    (length years ≡ row_places)
    × ((k : ℕ) → k < c.loop-n.n + 1 → get_or years k 0 ≡ year_credit nearest (purchase_in c.args.t c.args.pension_age) k)
    × ((k : ℕ) → c.loop-n.n + 1 ≤ k → k < row_places → get_or years k 0 ≡ 0)
one_year c turned =
    let a = c.args in
    let w = c.loop-n in
    let in_row : w.n < length w.years = omega (arith, w.invariant.long, short a.t a.pension_age a.rate c.requires.rate_value c.requires.rate_nonzero.0) in (
      simp length-set w.invariant.long,
      table_more w.years _ w.n _ in_row w.invariant.below (this_year _ _ _ _ _ turned _ c.year_credit.ensures),
      λ k h l. get_or-set_other w.years w.n k _ 0 (λ z. omega arith) ∙ w.invariant.above k (omega arith) l,
    )

pub loop-n-preserved : goal.loop-n-preserved
loop-n-preserved c =
    let y = one_year (goal.at.loop-n-preserved c).After-year_credit (turn (goal.at.loop-n-preserved c).After-monthly_rate-yearly) in
    record { long = y.0; below = y.1; above = y.2 }

-- past the term the row is the row of credits, and none is more than the amount
module _ (t : Terms) (pension_age rate : ℕ) (priced : rate ≡ rate_of t.option pension_age t.age t.term) (some : 0 < rate) where
  all_most : (years : List ℕ) → years ≡ year_credits nearest (purchase_in t pension_age) → (n : ℕ) → get_or years n 0 ≤ pounds_in_pence t.amount
  all_most years is n =
      let bought = purchase_in t pension_age in
      let row : get_or years n 0 ≤ bought.units * bought.unit =
      rw is (years_most nearest nearest_within_half bought (short t pension_age rate priced some) (falling t pension_age rate priced some) n) in
      omega arith

pub returns-2 : goal.returns-2
returns-2 c =
    let a = c.args in
    let w = c.loop-n in
    let y = one_year (goal.at.returns-2 c).After-year_credit (turn (goal.at.returns-2 c).After-monthly_rate-yearly) in
    let is = filled (purchase_in a.t a.pension_age) _ (w.n + 1) (omega arith) y.0 y.1 y.2 in
    record { is = is; most = all_most a.t a.pension_age a.rate c.requires.rate_value c.requires.rate_nonzero.0 _ is }
