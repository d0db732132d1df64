-- Causes of the script after the table was read, and the one meaning of the words.
use Rattle.std.proofs.Common.{◌≡◌, ℕ, List, [], get_or, ap, sym, ◌∙◌, subst}
use Rattle.host_io.specs.Told.{Told}
use Rattle.fidl_names.specs.declared.limits.TheConstants as limit
use Rattle.run_status.proofs.FoundFiles.{still_lacks}
use Rattle.run_status.specs.Files.{StillTold}
use Rattle.run_status.specs.Outside.{FilesTold}
use Rattle.io_namespace.specs.Entries.{Table}
use Rattle.ns_program.specs.Answers.{HasNoScript}
use Rattle.ns_program.specs.Rewriting.{IsScript, IsLostScript}
use Rattle.ns_program.specs.Statuses.{fault_in}
use Rattle.ns_program.specs.Words.{Asks, Means}
use Rattle.ns_program.specs.declared.statuses.NsStatus.{NsStatus}
use Rattle.ns_program.specs.declared.statuses.NsStatus.TheVariants as status

pub still_no_script : (table : Table) (name : List ℕ) (before mid after : FilesTold) → StillTold before mid → (s : NsStatus) → HasNoScript table name mid after s → HasNoScript table name before after s
still_no_script table name before mid after still (status.LineRefused line) h = subst (λ (t : Told). IsLostScript table t line) (still.told name) h
still_no_script table name before mid after still status.FileFault h = still_lacks limit.MAX_TEXT name before mid after still fault_in status.FileFault h
still_no_script table name before mid after still status.FileTooLarge h = still_lacks limit.MAX_TEXT name before mid after still fault_in status.FileTooLarge h
still_no_script table name before mid after still status.NoMemory h = h
still_no_script table name before mid after still status.Done h = h
still_no_script table name before mid after still status.Usage h = h
still_no_script table name before mid after still status.WriteFault h = h
still_no_script table name before mid after still (status.TableRefused line) h = h

pub still_script : (table : Table) (name text : List ℕ) (before mid : FilesTold) → StillTold before mid → IsScript table (mid.told name) text → IsScript table (before.told name) text
still_script table name text before mid still is = subst (λ (t : Told). IsScript table t text) (still.told name) is

pub one_meaning : (words : List (List ℕ)) (a b : Asks) → Means words a → Means words b → a ≡ b
one_meaning words a b is also =
    let table : a.table ≡ b.table = ap (λ (l : List (List ℕ)). get_or l 0 []) (sym is ∙ also) in
    let script : a.script ≡ b.script = ap (λ (l : List (List ℕ)). get_or l 1 []) (sym is ∙ also) in
    λ i. record { table = table i; script = script i }
