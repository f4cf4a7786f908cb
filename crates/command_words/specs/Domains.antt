-- The domains that words name.
use Rattle.std.specs.Prelude.{Option, Some, None, if◌then◌else◌, codes}
use Rattle.std.specs.Str.{bytes_eq}
use Rattle.command_words.specs.Texts.{Text}
use Rattle.command_words.specs.declared.domain_name.DomainName.{DomainName}
use Rattle.command_words.specs.declared.domain_name.DomainName.TheVariants.{Decomposed, Full}

-- a word names a domain where it is exactly one of two
abbrev pub domain_of : Text → Option DomainName
domain_of word = if bytes_eq word (codes "dec") then Some Decomposed else (if bytes_eq word (codes "full") then Some Full else None)

-- the domain of an option's word; where it isn't given, that in blocks
abbrev pub domain_or : Option Text → Option DomainName
domain_or None = Some Decomposed
domain_or (Some word) = domain_of word
