-- Numbered calls, some of which are to fail.
use Rattle.std.specs.Prelude.{ℕ, List, Contains, refl}
use Rattle.std.specs.Coded.{Coded, code_by, coded×, coded_ℕ, coded_list}
use Rattle.host_io.specs.Causes.{next_count}

-- the numbers of the calls that are to fail, how many calls were made, and how many failed
pub record Calls : Type 0 where
  pub failing : List ℕ
  pub made : ℕ
  pub faults : ℕ

-- calls are stored as their fields
abbrev pub calls_code : Coded Calls
calls_code =
    code_by (List ℕ × (ℕ × ℕ)) (coded× (coded_list coded_ℕ) (coded× coded_ℕ coded_ℕ))
    (λ c. (c.failing, (c.made, c.faults))) (λ p. record { failing = p.0; made = p.1.0; faults = p.1.1 }) (λ _. refl)

-- no call was made
abbrev pub no_calls : List ℕ → Calls
no_calls failing = record { failing = failing; made = 0; faults = 0 }

-- the next call is to fail
abbrev pub IsListed : Calls → Type 0
IsListed calls = Contains calls.failing calls.made

-- after a call that went well
abbrev pub after_success : Calls → Calls
after_success calls = record { failing = calls.failing; made = next_count calls.made; faults = calls.faults }

-- after a call that failed
abbrev pub after_failure : Calls → Calls
after_failure calls = record { failing = calls.failing; made = next_count calls.made; faults = next_count calls.faults }
