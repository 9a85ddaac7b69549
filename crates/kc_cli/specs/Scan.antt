-- How the path to a source file is read from left to right.
use Rattle.std.specs.Prelude.{ℕ, Bool, true, false, List, [], ◌∷◌, Option, Some, None, nat_eq, if◌then◌else◌}
use Rattle.std.specs.Option.{option_map_or}
use Rattle.std.specs.Char.{is_ascii_digit}
use Rattle.kc_cli.specs.SourceFile.{is_word_byte}
use Rattle.kc_cli.specs.declared.source_file.Part.{Part}
use Rattle.kc_cli.specs.declared.source_file.Part.TheVariants.{Begins, Folder, Base}

-- the part behind this byte, or nothing where no path goes on with it
abbrev pub next_of : Part → ℕ → Option Part
next_of Begins byte = if is_word_byte byte then Some (if is_ascii_digit byte then Folder else Base) else None
next_of Folder byte = if is_word_byte byte then Some Folder else (if nat_eq byte 47 then Some Begins else None)
next_of Base byte = if is_word_byte byte then Some Base else (if nat_eq byte 47 then Some Begins else None)

-- a path may end in this part
abbrev pub may_end : Part → Bool
may_end Begins = false
may_end Folder = false
may_end Base = true

-- a path goes on with these bytes and ends
abbrev pub reads : List ℕ → Part → Bool
reads [] part = may_end part
reads (byte ∷ bytes) part = option_map_or (reads bytes) (next_of part byte) false
