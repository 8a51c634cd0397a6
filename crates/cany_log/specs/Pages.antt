-- How many bytes a page has at most, on which there are many lines, and a field of some of them.
use Rattle.std.specs.Prelude.{ℕ}

abbrev pub most_page_bytes : ℕ
most_page_bytes = 16384

-- the name of a service
abbrev pub most_service_bytes : ℕ
most_service_bytes = 3
