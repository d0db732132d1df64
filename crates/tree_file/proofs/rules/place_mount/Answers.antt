use Rattle.std.proofs.Common.{◌≡◌, false, List, ℕ, IfOk, ap, ◌∙◌, sym, subst}
use Rattle.session_start.specs.Items.{MountItem}
use Rattle.session_start.specs.RulesOnLists.{Place, mount_place, is_directory}
use Rattle.tree_file.proofs.Places.{IsPlacing, mount-placing}
use Rattle.tree_file.proofs.rules.place_mount.Goals as goal

same_place : (server server' : ℕ) (path path' : List ℕ) → server ≡ server' → path ≡ path'
    → ◌≡◌ {A = Place} (record { server = server; path = path; directory = false }) (record { server = server'; path = path'; directory = false })
same_place server server' path path' s p = cc

same_asked : (listed : List Place) (target target' : ℕ) (at at' : List ℕ) → target ≡ target' → at ≡ at' → is_directory listed target' at' ≡ is_directory listed target at
same_asked listed target target' at at' t a = cc

pub returns : goal.returns
returns c =
    let mount = c.args.mount.now in
    let same = same_place c.mount.inside.server mount.server c.as_slice-path.result.now mount.path (ap (λ (m : MountItem). m.server) c.mount.view_is) (c.as_slice-path.ensures ∙ ap (λ (m : MountItem). m.path) c.mount.view_is) in
    let placing = subst (λ (place : Place). IfOk c.place.result (IsPlacing c.args.places.now c.place.new.places place)) same c.place.ensures in
    mount-placing c.place.result c.args.places.now c.place.new.places (mount_place mount) mount.target mount.at
    (λ listed stands. same_asked listed c.mount.inside.target mount.target c.as_slice-at.result.now mount.at (ap (λ (m : MountItem). m.target) c.mount.view_is) (c.as_slice-at.ensures ∙ ap (λ (m : MountItem). m.at) c.mount.view_is)
    ∙ sym (c.is_directory.ensures listed stands) ∙ c.if-not-is_directory.false)
    placing
