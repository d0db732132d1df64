-- That what a session writes is frames. A reader of the laws believes the words of Laws; the rest of it is laws, each proved.
pub mod Laws
