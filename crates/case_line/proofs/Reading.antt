-- The eight fields of a line, read in turn.
-- Assumes nothing.
use Rattle.std.proofs.Common.{List, ℕ, ◌≡◌, Some, None}
use Rattle.text.specs.Field.{field_of}
use Rattle.case_line.specs.Shape.{columns, fields_of}

-- no fields where one says no number, and those before it do
module _ (line : List ℕ) where
  pub no_election : field_of (columns 1 6 line) ≡ None → fields_of line ≡ None
  unfolding fields_of
  no_election none = rw (none)

  module _ {election : ℕ} (election_is : field_of (columns 1 6 line) ≡ Some election) where
    pub no_age : field_of (columns 7 9 line) ≡ None → fields_of line ≡ None
    unfolding fields_of
    no_age none = rw (election_is, none)

    module _ {age : ℕ} (age_is : field_of (columns 7 9 line) ≡ Some age) where
      pub no_years : field_of (columns 10 12 line) ≡ None → fields_of line ≡ None
      unfolding fields_of
      no_years none = rw (election_is, age_is, none)

      module _ {years : ℕ} (years_is : field_of (columns 10 12 line) ≡ Some years) where
        pub no_months : field_of (columns 13 15 line) ≡ None → fields_of line ≡ None
        unfolding fields_of
        no_months none = rw (election_is, age_is, years_is, none)

        module _ {months : ℕ} (months_is : field_of (columns 13 15 line) ≡ Some months) where
          pub no_option : field_of (columns 16 17 line) ≡ None → fields_of line ≡ None
          unfolding fields_of
          no_option none = rw (election_is, age_is, years_is, months_is, none)

          module _ {option : ℕ} (option_is : field_of (columns 16 17 line) ≡ Some option) where
            pub no_payer : field_of (columns 18 19 line) ≡ None → fields_of line ≡ None
            unfolding fields_of
            no_payer none = rw (election_is, age_is, years_is, months_is, option_is, none)

            module _ {payer : ℕ} (payer_is : field_of (columns 18 19 line) ≡ Some payer) where
              pub no_term : field_of (columns 20 22 line) ≡ None → fields_of line ≡ None
              unfolding fields_of
              no_term none = rw (election_is, age_is, years_is, months_is, option_is, payer_is, none)

              module _ {term : ℕ} (term_is : field_of (columns 20 22 line) ≡ Some term) where
                pub no_amount : field_of (columns 23 29 line) ≡ None → fields_of line ≡ None
                unfolding fields_of
                no_amount none = rw (election_is, age_is, years_is, months_is, option_is, payer_is, term_is, none)

                module _ {amount : ℕ} (amount_is : field_of (columns 23 29 line) ≡ Some amount) where
                  -- the fields where each says a number
                  pub fields_are :
                      fields_of line
                      ≡ Some (record {
                        election = election;
                        terms = record { age = age; pnpa_years = years; pnpa_months = months; option = option; payer = payer; term = term; amount = amount };
                      })
                  unfolding fields_of
                  fields_are = rw (election_is, age_is, years_is, months_is, option_is, payer_is, term_is, amount_is)
