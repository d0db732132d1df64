use Rattle.std.proofs.Common.{◌∙◌, [], ap, sym}
use Rattle.std.specs.FinMap as finite
use Rattle.std.specs.Option.{option_map_or}
use Rattle.std.specs.Ordering.{nat_cmp}
use Rattle.watch_events.specs.Watching.{Watching, watchers_of}
use Rattle.vfs_server.specs.Seats.{watchers_at}
use Rattle.vfs_server.proofs.watching.Watching.new.Goals as goal

pub invariant_of-result : goal.invariant_of-result
invariant_of-result c directory =
    ap (λ (found : Watching). watchers_of found directory) c.new-2.ensures
    ∙ ap (λ o. option_map_or (λ watchers. watchers) o []) (finite.get-empty nat_cmp directory)
    ∙ sym (ap (watchers_at directory) c.new.ensures.empty)
