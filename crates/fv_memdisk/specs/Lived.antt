-- What a history tells.
use Rattle.fv_memdisk.specs.declared.history.History.{History}
use Rattle.fv_memdisk.specs.Story.{Story}
use Rattle.fv_memdisk.specs.Blocks.{told}

abbrev pub story_of : History → Story
story_of h = told h.base h.current h.past.items h.run h.given.items h.forgotten.places
