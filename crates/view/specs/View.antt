-- What a view shows (document 01, Values). Assumes nothing: this is a definition.
use Rattle.items.specs.At.{Found, found_at}
use Rattle.view.specs.declared.View.{View}

-- the item at its place, with the TYPE at the other: "a view that holds the payload and the row's place" (document 01, Values)
abbrev pub found_in : View → Found
found_in v = found_at v.payload.now v.at v.type_at
