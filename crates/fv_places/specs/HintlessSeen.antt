-- A volume as it is seen, without hints: its pointers with PVBN 0, and of each place the kind alone. Whether an entry is the volume's own
-- is left out, too, since a split step gives a volume an entry of its own under a VVBN that it found along its base. An example: where
-- node 40 moves from block 900 to block 1200, the volume is another one as it is seen, and the same one without hints.
use Rattle.std.specs.Prelude.{ℕ, false, [], map}
use Rattle.std.specs.Option.{option_map}
use Rattle.fv_codec.specs.declared.inode.InodeRecord.{InodeRecord}
use Rattle.fv_tables.specs.Alike.{hintless, hintless_record, hintless_item}
use Rattle.fv_image.specs.Views.{Placed, Rooted}
use Rattle.fv_image.specs.Seen.{Reached, Root, VolumeSeen}

-- of a place the kind alone
abbrev pub hintless_placed : Placed → Placed
hintless_placed p = record { pvbn = 0; kind = p.kind; block = [] }

abbrev pub hintless_reached : Reached → Reached
hintless_reached e = record { item = hintless_item e.item; at = option_map hintless_placed e.at; own = false }

abbrev pub hintless_rooted : Rooted → Rooted
hintless_rooted r = record { levels = r.levels; root = hintless r.root }

-- a file's number and its record
abbrev pub hintless_named : ℕ × InodeRecord → ℕ × InodeRecord
hintless_named f = (f.0, hintless_record f.1)

abbrev pub hintless_root : Root → Root
hintless_root r = record {
  map = r.map;
  rooted = hintless_rooted r.rooted;
  files = map hintless_named r.files;
  reached = map hintless_reached r.reached;
}

-- What its base table reaches stays as it is: no step changes that.
abbrev pub hintless_volume : VolumeSeen → VolumeSeen
hintless_volume x = record { head = x.head; volume = x.volume; roots = map hintless_root x.roots; base = x.base }
