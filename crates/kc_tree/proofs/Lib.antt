pub mod CodesApart
