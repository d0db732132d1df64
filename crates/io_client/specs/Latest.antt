-- The call that was made last beside the table of the others: words of steps.
use Rattle.std.specs.Prelude.{◌≡◌, ℕ, ⊤, Option, Some, None, if◌then◌else◌}
use Rattle.std.specs.FinMap as finite
use Rattle.std.specs.Ordering.{eq_by_cmp}
use Rattle.fidl_names.specs.declared.methods.Method.{Method}
use Rattle.io_client.specs.Calls.{call_cmp}

-- all calls that wait
abbrev pub with_latest : Option ((ℕ × ℕ) × Method) → finite.FinMap call_cmp Method → finite.FinMap call_cmp Method
with_latest None others = others
with_latest (Some call) others = finite.insert others call.0 call.1

-- the last one isn't among the others
abbrev pub IsApart : Option ((ℕ × ℕ) × Method) → finite.FinMap call_cmp Method → Type 0
IsApart None others = ⊤
IsApart (Some call) others = finite.get others call.0 ≡ None

-- the method of a call, if it waits there
abbrev pub method_there : Option ((ℕ × ℕ) × Method) → ℕ × ℕ → Option Method
method_there None key = None
method_there (Some call) key = if eq_by_cmp call_cmp key call.0 then Some call.1 else None
