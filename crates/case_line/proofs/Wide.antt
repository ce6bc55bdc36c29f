-- Every field of the listing is wide enough for its number: what is written there reads back as that number.
-- Assumes nothing.
use mathlib.Core.List.{List}
use mathlib.Core.Path.{◌≡◌}
use Prim.Native.Nat.{ℕ, ◌<◌, ◌≤◌, ◌^◌}
use native.Mathlib.Nat.{pow-le-pow_right}
use native.Mathlib.Omega.{arith}
use lib.ListN.{length, take, length-take}
use Rattle.std.proofs.Common.{Some}
use Rattle.text.specs.Field.{field_of}
use Rattle.text.specs.Column.{column_of}
use Rattle.text.proofs.ReadBack.{column_read, field_below}
use Rattle.terms.specs.declared.Terms.{Terms}
use Rattle.settlement.specs.Settle.{settle_of}
use Rattle.settlement.proofs.Bounds.{settle_bounds}
use Rattle.case_line.specs.Shape.{columns}
use Rattle.case_line.specs.Line.{ListedReadBack}

pub settled_reads_back : (t : Terms) (marks : List ℕ) → ListedReadBack (settle_of t marks)
settled_reads_back t marks =
    let b = settle_bounds t marks in
    record {
      refusal = column_read 2 _ (omega (arith, b.refusal_most)) (omega (arith, b.refusal_most));
      place = column_read 3 _ (omega (arith, b.place_most)) (omega (arith, b.place_most));
      status = column_read 1 _ (omega (arith, b.status_most)) (omega (arith, b.status_most));
      contribution = column_read 9 _ (omega (arith, b.contribution_most)) (omega (arith, b.contribution_most));
      credit = column_read 9 _ (omega (arith, b.credit_most)) (omega (arith, b.credit_most));
      refund = column_read 9 _ (omega (arith, b.refund_most)) (omega (arith, b.refund_most));
    }

-- an election number is read from as many columns as it is written in
pub election_reads_back : (line : List ℕ) (election : ℕ) → field_of (columns 1 6 line) ≡ Some election
    → field_of (column_of 6 election) ≡ Some election
election_reads_back line election e =
    let below : election < 10 ^ length (take 6 line) = field_below (take 6 line) election e in
    let small : election < 1000000 = six (take 6 line) (omega (arith, length-take 6 line)) below in
    column_read 5 election small (omega arith)
  where
    six : (l : List ℕ) → length l ≤ 6 → election < 10 ^ length l → election < 1000000
    six l h below = omega (arith, pow-le-pow_right {n = 10} (omega arith) {i = length l} {j = 6} h)
