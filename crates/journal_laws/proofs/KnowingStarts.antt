-- The starts of tree files are numbered.
use Rattle.std.proofs.Common.{◌≡◌, ◌≢◌, ℕ, ◌+◌, List, [], ◌∷◌, length, map, All, AllPairs, refl, ap, arith}
use Rattle.std.specs.List.{enumerate_from, range_with_len}
use Rattle.std.proofs.lemmas.List.Elements.{All-nil, All-cons, All-head, All-tail}
use Rattle.std.proofs.lemmas.List.Kept.{AllPairs-cons}
use Rattle.session_start.specs.Items.{Lists, MountItem, ClientItem}
use Rattle.fidl_names.specs.HandleNumber.{end_of_mount}
use Rattle.journal_laws.specs.Knowing.{IsNumbered}
use Rattle.vfs_journal.specs.Starts.{Bound, first_of_client, end_of, start_of}
use Rattle.journal_laws.proofs.KnowingLists.{ends_of}
use Rattle.journal_laws.proofs.Lists.{pairs-head, pairs-tail}

abbrev DifferClients : ClientItem → ClientItem → Type 0
DifferClients client other = client.endpoint ≢ other.endpoint

abbrev DifferBounds : Bound → Bound → Type 0
DifferBounds bound other = bound.endpoint ≢ other.endpoint

each_differs : (lists : Lists) (client : ClientItem) (clients : List ClientItem) → All (DifferClients client) clients → All (DifferBounds (first_of_client lists client)) (map (first_of_client lists) clients)
each_differs lists client [] h = All-nil (DifferBounds (first_of_client lists client))
each_differs lists client (x ∷ xs) h =
    All-cons (DifferBounds (first_of_client lists client)) (first_of_client lists x) (map (first_of_client lists) xs) (All-head (DifferClients client) x xs h)
    (each_differs lists client xs (All-tail (DifferClients client) x xs h))

firsts_differ : (lists : Lists) (clients : List ClientItem) → AllPairs DifferClients clients → AllPairs DifferBounds (map (first_of_client lists) clients)
firsts_differ lists [] h = λ i j d l m. absurd (omega arith)
firsts_differ lists (x ∷ xs) h =
    AllPairs-cons DifferBounds (first_of_client lists x) (map (first_of_client lists) xs) (each_differs lists x xs (pairs-head DifferClients x xs h))
    (firsts_differ lists xs (pairs-tail DifferClients x xs h))

pub mounts_in_order : (lists : Lists) (a : ℕ) (mounts : List MountItem) →
    ends_of (map (end_of lists) (enumerate_from a mounts)) ≡ map end_of_mount (range_with_len a (length (map (end_of lists) (enumerate_from a mounts))))
mounts_in_order lists a [] = refl
mounts_in_order lists a (mount ∷ mounts) = ap (λ (ns : List ℕ). end_of_mount a ∷ ns) (mounts_in_order lists (a + 1) mounts)

pub files_numbered : (lists : Lists) → AllPairs DifferClients lists.clients → IsNumbered (start_of lists)
files_numbered lists h = record { firsts = firsts_differ lists lists.clients h; mounts = mounts_in_order lists 0 lists.mounts }
