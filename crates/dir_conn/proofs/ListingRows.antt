-- What a ReadDirents does by whether it is refused.
use Rattle.std.proofs.Common.{◌≡◌, ◌<◌, ◌≤◌, ℕ, true, false, refl}
use Rattle.std.proofs.lemmas.Bool.{le-ltb, lt-ltb}
use Rattle.fidl_names.specs.declared.limits.TheConstants as limit
use Rattle.fidl_names.specs.declared.methods.Method.TheVariants as method
use Rattle.fidl_names.specs.declared.statuses.Status.TheVariants as status
use Rattle.io_messages.specs.Replies.{payload}
use Rattle.dirents.specs.Listings.{fits_none, fitting, place_after}
use Rattle.dirents.specs.Packing.{fitting_bytes}
use Rattle.conn_rules.specs.Answers.{failure_of, only, replies}
use Rattle.conn_rules.specs.Contexts.{Context}
use Rattle.conn_rules.specs.FileRows.{is_too_much}
use Rattle.conn_rules.specs.Listings.{at_place, listing_act, listing_here}

pub few : (most : ℕ) → most ≤ limit.MAX_CHUNK → is_too_much most ≡ false
few most small = le-ltb limit.MAX_CHUNK most small

pub listing_of_too_much : (context : Context) (most : ℕ) → limit.MAX_CHUNK < most →
    listing_act context most ≡ only context.position (failure_of method.ReadDirents status.InvalidArgs)
listing_of_too_much context most much = rw (lt-ltb limit.MAX_CHUNK most much) refl

pub listing_of_none : (context : Context) (most : ℕ) → is_too_much most ≡ false → fits_none (listing_here context) most ≡ true →
    listing_act context most ≡ only context.position (failure_of method.ReadDirents status.BufferTooSmall)
listing_of_none context most few none = rw (few, none) refl

pub listing_of_some : (context : Context) (most : ℕ) → is_too_much most ≡ false → fits_none (listing_here context) most ≡ false →
    listing_act context most
    ≡ only (at_place context.position (place_after context.position.place (fitting (listing_here context) most)))
    (replies (payload method.ReadDirents (fitting_bytes (listing_here context) most)))
listing_of_some context most few some = rw (few, some) refl
