-- The lists of the generated workload keep the rules of a tree.
use Rattle.std.proofs.Common.{◌≡◌, ◌≢◌, ◌<◌, ℕ, zero, suc, List, [], ◌∷◌, All, AllPairs, None, codes, slice_index, ap, refl, arith, inr}
use Rattle.std.specs.Str.{is_utf8, chars}
use Rattle.std.proofs.lemmas.List.Elements.{All-nil}
use lib.Utf8.{encode}
use Rattle.fidl_names.specs.Numbers.{AreBytes}
use Rattle.path_walk.specs.Names.{IsName, name_fault}
use Rattle.path_walk.specs.Parts.{parent_of}
use Rattle.path_walk.specs.Paths.{path_fault, names_of, text_of}
use Rattle.session_start.specs.Accepted.{AreAccepted, AreItems, AreOfStart, AreServers, HasFilesOfBytes, IsAt, IsNode, IsMount, IsClient, OtherEndpoint}
use Rattle.session_start.specs.RulesOnLists.{first_failing, found_among, is_directory, first_broken, rules_on_lists}
use Rattle.tree_file.specs.Generated.{directory_of, mount_of_second, client_of_first, generated_lists}

all_of_one : {X : Type 0} (P : X → Type 0) (x : X) → P x → All P (x ∷ [])
all_of_one P x here zero d within = here
all_of_one P x here (suc k) d within = absurd (omega arith)

all_of_two : {X : Type 0} (P : X → Type 0) (x y : X) → P x → P y → All P (x ∷ y ∷ [])
all_of_two P x y first second zero d within = first
all_of_two P x y first second (suc zero) d within = second
all_of_two P x y first second (suc (suc k)) d within = absurd (omega arith)

pairs_of_one : {X : Type 0} (R : X → X → Type 0) (x : X) → AllPairs R (x ∷ [])
pairs_of_one R x i j d before within = absurd (omega arith)

pairs_of_two : {X : Type 0} (R : X → X → Type 0) (x y : X) → R x y → AllPairs R (x ∷ y ∷ [])
pairs_of_two R x y apart zero zero d before within = absurd (omega arith)
pairs_of_two R x y apart zero (suc zero) d before within = apart
pairs_of_two R x y apart zero (suc (suc j)) d before within = absurd (omega arith)
pairs_of_two R x y apart (suc i) j d before within = absurd (omega arith)

letters_apart : codes "a" ≢ codes "b"
letters_apart same = let first : 97 ≡ 98 = ap (λ (name : List ℕ). slice_index name 0) same in absurd (omega (arith, first))

servers_kept : AreServers (codes "a" ∷ codes "b" ∷ [])
unfolding name_fault
servers_kept =
    record {
      few = omega arith;
      valid = all_of_two IsName (codes "a") (codes "b") refl refl;
      apart = pairs_of_two (λ one other. one ≢ other) (codes "a") (codes "b") letters_apart;
    }

at_place : (server : ℕ) (text : List ℕ) → server < 2 → path_fault text ≡ None → IsAt 2 server text
at_place server text within fault = record { server = within; path = fault }

node_kept : (server : ℕ) → server < 2 → IsNode 2 (directory_of server)
unfolding path_fault names_of name_fault is_utf8 chars encode
node_kept server within =
    record { at = at_place server (codes "d") within refl; below = refl; plain = _; bytes = inr refl }

mount_kept : IsMount 2 mount_of_second
unfolding path_fault names_of name_fault is_utf8 chars encode
mount_kept =
    record { at = at_place 0 (codes "m") (omega arith) refl; below = refl; target = at_place 1 (codes ".") (omega arith) refl }

client_kept : IsClient 2 client_of_first
unfolding path_fault names_of name_fault is_utf8 chars encode
client_kept = record { at = at_place 0 (codes ".") (omega arith) refl; endpoint = refl }

items_kept : AreItems generated_lists
items_kept =
    record {
      servers = servers_kept;
      nodes = all_of_two (IsNode 2) (directory_of 0) (directory_of 1) (node_kept 0 (omega arith)) (node_kept 1 (omega arith));
      mounts = all_of_one (IsMount 2) mount_of_second mount_kept;
      clients = all_of_one (IsClient 2) client_of_first client_kept;
      apart = pairs_of_one OtherEndpoint client_of_first;
    }

places_kept : first_broken 8 (rules_on_lists generated_lists) ≡ None
unfolding first_failing found_among is_directory parent_of names_of text_of
places_kept = refl

pub generated_accepted : AreAccepted generated_lists
generated_accepted = record { items = items_kept; placed = places_kept }

files_kept : HasFilesOfBytes generated_lists
files_kept = all_of_two (λ node. AreBytes node.bytes) (directory_of 0) (directory_of 1) (All-nil (λ byte. byte < 256)) (All-nil (λ byte. byte < 256))

pub generated_of_start : AreOfStart generated_lists
generated_of_start = record { accepted = generated_accepted; bytes = files_kept }
