-- What the search for a column keeps from source to source. Only private functions cite it.
use Rattle.wat_scope.specs.declared.scope.Found.{Found}
use Rattle.wat_scope.specs.declared.scope.Found.TheVariants.{Nowhere, At, Several}

-- what is found in some sources, and in further ones
abbrev pub joined : Found → Found → Found
joined Nowhere other = other
joined Several other = Several
joined (At source column) Nowhere = At source column
joined (At source column) (At other-source other-column) = Several
joined (At source column) Several = Several
