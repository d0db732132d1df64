-- Listings: what the rows of ReadDirents and Rewind do at a directory's position.
use Rattle.std.specs.Prelude.{ℕ, List, [], ◌∷◌}
use Rattle.std.specs.List.{flat_map}
use Rattle.fidl_names.specs.First.{cause_if, first_of}
use Rattle.fidl_names.specs.declared.methods.Method.TheVariants as method
use Rattle.fidl_names.specs.declared.statuses.Status.TheVariants as status
use Rattle.io_messages.specs.Replies.{payload, settled}
use Rattle.dirents.specs.declared.place.Place.{Place}
use Rattle.dirents.specs.declared.place.Place.TheVariants.{Start}
use Rattle.dirents.specs.Listings.{Dirent, dirent_bytes, fits_none, fitting, listing, place_after}
use Rattle.conn_rules.specs.Births.{Position}
use Rattle.conn_rules.specs.Contexts.{Context}
use Rattle.conn_rules.specs.Answers.{Act, only, replies}
use Rattle.conn_rules.specs.FileRows.{is_too_much}
use Rattle.conn_rules.specs.Refusals.{unless}

-- the position of a directory's connection at this place
abbrev pub at_place : Position → Place → Position
at_place position place = record position { place = place }

-- the listing of the directory from the position on
abbrev pub listing_here : Context → List Dirent
listing_here context = listing context.tree context.birth.node context.position.place

-- the entries behind the position that fit; the position goes behind them
abbrev pub listing_act : Context → ℕ → Act
listing_act context most =
    unless
    (first_of
    (cause_if (is_too_much most) status.InvalidArgs
    ∷ cause_if (fits_none (listing_here context) most) status.BufferTooSmall ∷ []))
    context.position method.ReadDirents
    (only
    (at_place context.position
    (place_after context.position.place (fitting (listing_here context) most)))
    (replies
    (payload method.ReadDirents (flat_map dirent_bytes (fitting (listing_here context) most)))))

-- the listing begins anew
abbrev pub rewind_act : Context → Act
rewind_act context = only (at_place context.position Start) (replies (settled method.Rewind))
