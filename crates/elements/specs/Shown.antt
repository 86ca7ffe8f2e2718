-- How the code's values are shown as those of the definitions: an isotope: document 01, "Rows". Assumes nothing.
use Rattle.format.specs.Structure.{Isotope, isotope_of}
use Rattle.elements.specs.declared.Isotope.{Isotope as Answered}

abbrev pub isotope_shown : Answered → Isotope
isotope_shown x = isotope_of x.element x.mass
