-- What a Watch does by whether it is refused.
use Rattle.std.proofs.Common.{◌≡◌, ℕ, Some, None, refl}
use Rattle.fidl_names.specs.declared.methods.Method.TheVariants as method
use Rattle.fidl_names.specs.declared.statuses.Status.{Status}
use Rattle.fidl_names.specs.First.{first_of}
use Rattle.conn_rules.specs.Answers.{failure_of, only, watches}
use Rattle.conn_rules.specs.Contexts.{Context}
use Rattle.conn_rules.specs.NameRows.{watch_act, watch_refusals}

pub watch_refused : (context : Context) (mask options : ℕ) (status : Status) →
    first_of (watch_refusals context.room mask options) ≡ Some status →
    watch_act context mask options ≡ only context.position (failure_of method.Watch status)
watch_refused context mask options status is = rw is refl

pub watch_taken : (context : Context) (mask options : ℕ) → first_of (watch_refusals context.room mask options) ≡ None →
    watch_act context mask options ≡ only context.position (watches mask)
watch_taken context mask options is = rw is refl
