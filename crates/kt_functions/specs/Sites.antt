-- Where functions and properties stand.
use Rattle.kt_functions.specs.declared.sites.Site.{Site}
use Rattle.kt_functions.specs.declared.sites.Site.TheVariants as site
use Rattle.kt_grammar.specs.Rows as rows

-- the same place in the grammar
abbrev pub site_of : Site → rows.Site
site_of site.TopLevel = rows.top_level
site_of site.InClass = rows.in_class
site_of site.InInterface = rows.in_interface
