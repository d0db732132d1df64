-- The codes by which what a client waits for is told apart: words of steps.
use Rattle.std.specs.Prelude.{◌≡◌, ℕ, slice_index_or, refl}
use Rattle.std.specs.Coded.{Coded, code_by, coded×, coded_ℕ}
use Rattle.std.specs.FinMap as finite
use Rattle.std.specs.FinSet as set
use Rattle.std.specs.Ordering.{nat_cmp}
use Rattle.fidl_names.specs.declared.methods.Method.{Method}
use Rattle.fidl_names.specs.declared.methods.Method.TheVariants as method
use Rattle.fidl_wire.specs.Names.{row_of}
use Rattle.io_messages.specs.Protocols.{all_methods}
use Rattle.io_client.specs.Calls.{Calls, call_cmp}

abbrev pub method_at : ℕ → Method
method_at row = slice_index_or all_methods row method.Clone

pub method_back : (m : Method) → method_at (row_of m) ≡ m
method_back method.Clone = refl
method_back _ = refl

abbrev pub method_code : Coded Method
method_code = code_by ℕ coded_ℕ row_of method_at method_back

abbrev pub waiting_code : Coded (finite.FinMap call_cmp Method)
waiting_code = finite.code (coded× coded_ℕ coded_ℕ) method_code

abbrev pub calls_code : Coded Calls
calls_code =
    code_by (finite.FinMap call_cmp Method × set.FinSet nat_cmp) (coded× waiting_code (set.code coded_ℕ))
    (λ c. (c.waiting, c.watched)) (λ p. record { waiting = p.0; watched = p.1 }) (λ _. refl)
