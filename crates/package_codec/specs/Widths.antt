-- The widths of counts.
use Rattle.std.specs.Int.{Width, w8, w16, w32}
use Rattle.package_codec.specs.declared.width.Width.{Width as CountWidth}
use Rattle.package_codec.specs.declared.width.Width.TheVariants.{One, Two, Four}

abbrev pub of_count : CountWidth → Width
of_count One = w8
of_count Two = w16
of_count Four = w32
